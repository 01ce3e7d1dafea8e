-- A decomposition and every listed candidate have 24 places for suffix rows, so that a row of the buffer holds all of them. Assumes
-- nothing.
use Rattle.std.specs.Prelude.{Err, Ok, Result}
use Rattle.refusals.specs.declared.Refusal.{Refusal}
use Prim.Native.Nat.{ℕ, zero, suc}
use mathlib.Core.Path.{◌≡◌, refl, ap}
use mathlib.Core.Bool.{Bool, true, false}
use mathlib.Core.List.{List, [], ◌∷◌, ◌++◌}
use lib.ListN.{length, drop}
use lib.Dec.{leb}
use Rattle.runs.specs.Runs.{pick}
use Rattle.text.specs.Characters.{chars}
use Rattle.tables.specs.Rows.{prefix_forms, suffixes}
use Rattle.sheet.specs.Letters.{is_known}
use Rattle.sheet.specs.Replies.{Ask, letters_by, reply}
use Rattle.sheet.specs.Inputs.{inputs_of}
use Rattle.sheet.specs.declared.letters.Letters.{Letters}
use Rattle.strips.specs.Prefix.{leaves}
use Rattle.decomposition.specs.Strips.{label_row, least_root, left_of, no_front, front_at, first_front}
use Rattle.decomposition.specs.Parts.{filled, label_limit, root_text, parts_of, behind_front, decomposed_of, morpheme_of}
use Rattle.decomposition.specs.declared.Parts.{Parts}
use Rattle.decomposition.specs.declared.fronts.Front.{Front}
use Rattle.roots.specs.Rank.{ahead_of}
use Rattle.roots.specs.Lists.{holds_in, ranked, once}
use Rattle.roots.specs.Candidates.{candidate_by, kept_of, kept_all, parts_among, under_row, under_rows, bare, one_suffix, under_form, under_forms, offers, candidates}
use Rattle.roots.specs.Answers.{roots_if, roots_for}
use Rattle.roots.specs.declared.RootCandidate.{RootCandidate}

-- parts have 24 places
abbrev pub Full : Parts → Type 0
Full p = length p.suffixes ≡ 24

abbrev pub FullRow : RootCandidate → Type 0
FullRow c = Full c.parts

-- each element is so
abbrev pub Every : {A : Type 0} → (A → Type 0) → List A → Type 0
Every P [] = Unit {0}
Every P (x ∷ xs) = P x × Every P xs

filled_long : (n : ℕ) (xs : List ℕ) → length (filled n xs) ≡ n
filled_long zero xs = refl
filled_long (suc n) [] = ap suc (filled_long n [])
filled_long (suc n) (x ∷ xs) = ap suc (filled_long n xs)

parts_full : (f : Front) (root labels : List ℕ) → Full (parts_of f root labels)
parts_full f root labels = filled_long label_limit labels

decomposed_full : (ask : Ask) (w : List ℕ) → Full (decomposed_of ask w)
unfolding decomposed_of
decomposed_full ask w =
    let f = first_front ask w 0 prefix_forms in
    parts_full f (behind_front ask w f).piece (behind_front ask w f).labels

-- the decomposition
pub morpheme_full : (ask : Ask) (w : List ℕ) → Full (morpheme_of ask w).parts
unfolding morpheme_of
morpheme_full ask w = decomposed_full ask w

-- What is offered.

full_append : (ps qs : List Parts) → Every Full ps → Every Full qs → Every Full (ps ++ qs)
full_append [] qs h k = k
full_append (p ∷ ps) qs h k = (h.0, full_append ps qs h.1 k)

among_full : (least : ℕ) (f : Front) (labels : List ℕ) (rs : List (List ℕ)) → Every Full (parts_among least f labels rs)
among_full least f labels [] = tt
among_full least f labels (r ∷ rs) = by (leb least (chars r)) (among_full least f labels rs)
  where
    by : (b : Bool) → Every Full (parts_among least f labels rs) → Every Full (pick b (parts_of f r labels ∷ []) [] ++ parts_among least f labels rs)
    by true h = (parts_full f r labels, h)
    by false h = h

module _ (ask : Ask) where
  rows_full : (f : Front) (piece : List ℕ) (k : ℕ) (rows : List (List ℕ)) → Every Full (under_rows ask f piece k rows)
  unfolding under_row
  rows_full f piece k [] = tt
  rows_full f piece k (suffix ∷ rows) =
      full_append (parts_among (least_root f.prefix) f (label_row k ∷ []) (left_of ask piece suffix)) (under_rows ask f piece (suc k) rows)
      (among_full (least_root f.prefix) f (label_row k ∷ []) (left_of ask piece suffix))
      (rows_full f piece (suc k) rows)

  module _ (w : List ℕ) where
    suffix_full : (f : Front) → Every Full (one_suffix ask w f)
    unfolding one_suffix
    suffix_full f = rows_full f (drop f.from w) 0 suffixes

    bare_full : (f : Front) → Full (bare w f)
    bare_full f = parts_full f (drop f.from w) []

    form_full : (k : ℕ) (form : List ℕ) → Every Full (under_form ask w k form)
    unfolding under_form
    form_full k form = by (leaves w form)
      where
        by : (b : Bool) → Every Full (pick b (bare w (front_at k (length form)) ∷ one_suffix ask w (front_at k (length form))) [])
        by true = (bare_full (front_at k (length form)), suffix_full (front_at k (length form)))
        by false = tt

    forms_full : (k : ℕ) (forms : List (List ℕ)) → Every Full (under_forms ask w k forms)
    forms_full k [] = tt
    forms_full k (form ∷ forms) = full_append (under_form ask w k form) (under_forms ask w (suc k) forms) (form_full k form) (forms_full (suc k) forms)

    offers_full : Every Full (offers ask w)
    unfolding offers
    offers_full =
        let rest = full_append (one_suffix ask w no_front) (under_forms ask w 0 prefix_forms) (suffix_full no_front) (forms_full 0 prefix_forms) in
        (bare_full no_front, (decomposed_full ask w, rest))

    -- What is kept of it.

    ranked_full : (r : RootCandidate) (xs : List RootCandidate) → Full r.parts → Every FullRow xs → Every FullRow (ranked w r xs)
    unfolding ranked
    ranked_full r [] h k = (h, tt)
    ranked_full r (x ∷ xs) h k = by (ahead_of w r x) (ranked_full r xs h k.1)
      where
        by : (b : Bool) → Every FullRow (ranked w r xs) → Every FullRow (pick b (r ∷ x ∷ xs) (x ∷ ranked w r xs))
        by true m = (h, k)
        by false m = (k.0, m)

    kept_full : (xs : List RootCandidate) (p : Parts) → Full p → Every FullRow xs → Every FullRow (kept_of ask w xs p)
    unfolding kept_of once candidate_by
    kept_full xs p h k =
        by (is_known l) (holds_in w p xs) (ranked_full (candidate_by ask w p l) xs h k)
      where
        l : Letters
        l = letters_by ask (root_text w p)

        by : (a b : Bool) → Every FullRow (ranked w (candidate_by ask w p l) xs) → Every FullRow (pick a (pick b xs (ranked w (candidate_by ask w p l) xs)) xs)
        by true true m = k
        by true false m = m
        by false b m = k

    all_full : (xs : List RootCandidate) (ps : List Parts) → Every FullRow xs → Every Full ps → Every FullRow (kept_all ask w xs ps)
    unfolding kept_all
    all_full xs [] h k = h
    all_full xs (p ∷ ps) h k = all_full (kept_of ask w xs p) ps (kept_full xs p k.0 h) k.1

    candidates_full : Every FullRow (candidates ask w)
    unfolding candidates
    candidates_full = all_full [] (offers ask w) tt offers_full

-- the candidates of every word and sheet
pub roots_full : (w s : List ℕ) → Every FullRow (roots_for w s)
unfolding roots_for
roots_full w s = by (inputs_of w s)
  where
    by : (i : Result (Unit {0}) Refusal) → Every FullRow (roots_if i w s)
    by (Ok _) = candidates_full (reply s) w
    by (Err r) = tt
