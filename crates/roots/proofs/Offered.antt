-- Laws of what is offered: one root with its labels, the remainders under a row, all rows, all forms. The proofs of the functions of
-- `offers` cite these. Assumes nothing.
use Rattle.std.specs.Prelude.{None, Some}
use Prim.Native.Nat.{ℕ, suc, ◌+◌, ◌<◌, ◌≤◌}
use native.Mathlib.Omega.{arith}
use native.Mathlib.Numerals.{add-one}
use mathlib.Core.Path.{◌≡◌, refl, sym, ap, ◌∙◌}
use mathlib.Core.Bool.{Bool, true, false}
use mathlib.Core.List.{List, [], ◌∷◌, ◌++◌, append_assoc}
use lib.ListN.{length, take, drop, get_or, drop_of_length-le, length-drop}
use lib.Seq.{drop-cons, length-take-le}
use lib.Dec.{leb}
use borrow.Author.Tests.{le-leb, lt-leb}
use Rattle.runs.specs.Runs.{pick}
use Rattle.text.specs.Characters.{chars}
use Rattle.tables.specs.declared.origins.Origin.{Origin}
use Rattle.sheet.specs.Letters.{is_known}
use Rattle.sheet.specs.Replies.{Ask, reply, letters_for, letters_by}
use Rattle.sheet.specs.declared.letters.Letters.{Letters}
use Rattle.strips.specs.Suffix.{front, fronts}
use Rattle.strips.specs.declared.suffix.Rests.{Rests}
use Rattle.strips.specs.Prefix.{leaves, rest_of}
use Rattle.origin.specs.Decisions.{decision_of}
use Rattle.origin.specs.declared.OriginDecision.{OriginDecision}
use Rattle.ranking.specs.Scores.{score_for}
use Rattle.decomposition.specs.Strips.{label_row, least_root, left_of, open_rests, front_at}
use Rattle.decomposition.specs.Parts.{root_text, prefixes_of, parts_at, parts_of}
use Rattle.decomposition.specs.declared.Parts.{Parts}
use Rattle.decomposition.specs.declared.fronts.Front.{Front}
use Rattle.decomposition.proofs.Taken.{own_letters, open_say}
use Rattle.decomposition.proofs.Leading.{rest_from, rest_nothing}
use Rattle.roots.specs.Room.{once_within, held_of, held_all}
use Rattle.roots.specs.Candidates.{score_by, candidate_by, parts_among, under_row, under_rows, bare, one_suffix, under_form, under_forms}
use Rattle.roots.specs.declared.RootCandidate.{RootCandidate}

-- One root with its labels.

same_candidate : {s t : ℕ} {p : Parts} {o u : Origin} {a b : Bool} → s ≡ t → o ≡ u
    → ◌≡◌ {A = RootCandidate}
    (record { score = s; parts = p; origin = o; known_word = a; known_headword = b })
    (record { score = t; parts = p; origin = u; known_word = a; known_headword = b })
same_candidate e f = cc

-- the score as the code asks for it, of so many prefixes
pub scored : (surface : ℕ) (l : Letters) (n m suffixes score : ℕ) → n ≡ m → score ≡ score_for l.word l.head false n suffixes surface → score ≡ score_by surface l m suffixes
unfolding score_by
scored surface l n m suffixes score e q = q ∙ ap (λ (x : ℕ). score_for l.word l.head false x suffixes surface) e

module _ (s w : List ℕ) (p : Parts) (l : Letters) (root : List ℕ) (e : l ≡ letters_for s (root ++ [])) (r : root ≡ root_text w p) where
  root-letters : l ≡ letters_by (reply s) (root_text w p)
  root-letters = own_letters s root l e ∙ ap (letters_by (reply s)) r

  pub candidate_is : (score surface : ℕ) (d : OriginDecision) → score ≡ score_by surface l (length (prefixes_of p.prefix)) p.suffix_count → surface ≡ chars w
      → d ≡ decision_of (reply s) root
      → ◌≡◌ {A = RootCandidate}
      (record { score = score; parts = p; origin = d.origin; known_word = l.word; known_headword = l.head })
      (candidate_by (reply s) w p l)
  unfolding candidate_by
  candidate_is score surface d q n f =
      same_candidate
      (q ∙ ap (λ (x : ℕ). score_by x l (length (prefixes_of p.prefix)) p.suffix_count) n)
      (ap (λ (x : OriginDecision). x.origin) (f ∙ ap (decision_of (reply s)) r))

  pub offer_unknown : (n : ℕ) (xs : List RootCandidate) → is_known l ≡ false → xs ≡ held_of n (reply s) w xs p
  unfolding held_of
  offer_unknown n xs k =
      let z : is_known (letters_by (reply s) (root_text w p)) ≡ false = ap is_known (sym root-letters) ∙ k in
      rw z

  pub offer_known : (n : ℕ) (xs ys : List RootCandidate) (c : RootCandidate) → is_known l ≡ true → c ≡ candidate_by (reply s) w p l → ys ≡ once_within n w c xs
      → ys ≡ held_of n (reply s) w xs p
  unfolding held_of
  offer_known n xs ys c k d q =
      let z : is_known (letters_by (reply s) (root_text w p)) ≡ true = ap is_known (sym root-letters) ∙ k in
      rw z (q ∙ ap (λ (x : RootCandidate). once_within n w x xs) (d ∙ ap (candidate_by (reply s) w p) root-letters))

-- Several, one after the other.

module _ (n : ℕ) (ask : Ask) (w : List ℕ) where
  pub held-append : (xs : List RootCandidate) (ps qs : List Parts) → held_all n ask w xs (ps ++ qs) ≡ held_all n ask w (held_all n ask w xs ps) qs
  unfolding held_all
  held-append xs [] qs = refl
  held-append xs (p ∷ ps) qs = held-append (held_of n ask w xs p) ps qs

  pub held_none : (xs : List RootCandidate) → xs ≡ held_all n ask w xs []
  unfolding held_all
  held_none xs = refl

  pub held_first : (xs : List RootCandidate) (p : Parts) (ps : List Parts) → held_all n ask w (held_of n ask w xs p) ps ≡ held_all n ask w xs (p ∷ ps)
  unfolding held_all
  held_first xs p ps = refl

-- One remainder.

-- the parts that the code makes of a front, a number of bytes and a label
pub one_label : (w : List ℕ) (f : Front) (len label k : ℕ) (p : Parts) → f.from + len ≤ length w → label ≡ label_row k → p ≡ parts_at f len (label ∷ [])
    → p ≡ parts_of f (take len (drop f.from w)) (label_row k ∷ [])
one_label w f len label k p h e q =
    let m : len ≤ length (drop f.from w) = rw (length-drop f.from w) (omega arith) in
    q
    ∙ ap (λ (x : ℕ). parts_at f len (x ∷ [])) e
    ∙ ap (λ (n : ℕ). parts_at f n (label_row k ∷ [])) (sym (length-take-le len (drop f.from w) m))

module _ (n : ℕ) (ask : Ask) (w : List ℕ) (xs : List RootCandidate) (least : ℕ) (f : Front) (labels r : List ℕ) where
  pub rest-few : chars r < least → xs ≡ held_all n ask w xs (parts_among least f labels (r ∷ []))
  unfolding held_all
  rest-few h = rw (lt-leb least (chars r) h)

  pub rest_enough : (ys : List RootCandidate) (p : Parts) → least ≤ chars r → p ≡ parts_of f r labels → ys ≡ held_of n ask w xs p
      → ys ≡ held_all n ask w xs (parts_among least f labels (r ∷ []))
  unfolding held_all
  rest_enough ys p h e q = rw (le-leb least (chars r) h) (q ∙ ap (held_of n ask w xs) e)

-- The remainders under a row.

pub among-append : (least : ℕ) (f : Front) (labels : List ℕ) (rs ss : List (List ℕ)) → parts_among least f labels (rs ++ ss) ≡ parts_among least f labels rs ++ parts_among least f labels ss
among-append least f labels [] ss = refl
among-append least f labels (r ∷ rs) ss =
    ap (λ (ps : List Parts). pick (leb least (chars r)) (parts_of f r labels ∷ []) [] ++ ps) (among-append least f labels rs ss)
    ∙ sym (append_assoc (pick (leb least (chars r)) (parts_of f r labels ∷ []) []) (parts_among least f labels rs) (parts_among least f labels ss))

module _ (n : ℕ) (ask : Ask) (w : List ℕ) (xs : List RootCandidate) (least : ℕ) (f : Front) (labels piece : List ℕ) (r : Rests) where
  -- the plain one, then the shared one
  pub rests_two : (ys zs : List RootCandidate) → ys ≡ held_all n ask w xs (parts_among least f labels (front piece r.plain))
      → zs ≡ held_all n ask w ys (parts_among least f labels (front piece r.shared))
      → zs ≡ held_all n ask w xs (parts_among least f labels (fronts piece r))
  rests_two ys zs q t =
      let u = parts_among least f labels (front piece r.plain) in
      let v = parts_among least f labels (front piece r.shared) in
      t
      ∙ ap (λ (l : List RootCandidate). held_all n ask w l v) q
      ∙ sym (held-append n ask w xs u v)
      ∙ ap (held_all n ask w xs) (sym (among-append least f labels (front piece r.plain) (front piece r.shared)))

-- All rows.

module _ (n : ℕ) (ask : Ask) (w : List ℕ) (f : Front) (piece : List ℕ) (rows : List (List ℕ)) (k : ℕ) where
  pub under_turn : (xs ys : List RootCandidate) (suffix : List ℕ) (r : Rests) → k < length rows → suffix ≡ get_or rows k [] → r ≡ open_rests ask piece suffix
      → ys ≡ held_all n ask w xs (parts_among (least_root f.prefix) f (label_row k ∷ []) (fronts piece r))
      → held_all n ask w xs (under_rows ask f piece k (drop k rows)) ≡ held_all n ask w ys (under_rows ask f piece (k + 1) (drop (k + 1) rows))
  unfolding under_row
  under_turn xs ys suffix r h e o q =
      let ls = label_row k ∷ [] in
      let z : fronts piece r ≡ left_of ask piece (get_or rows k []) = ap (fronts piece) o ∙ open_say ask piece suffix ∙ ap (left_of ask piece) e in
      let y : ys ≡ held_all n ask w xs (parts_among (least_root f.prefix) f ls (left_of ask piece (get_or rows k []))) =
      q ∙ ap (λ (l : List (List ℕ)). held_all n ask w xs (parts_among (least_root f.prefix) f ls l)) z in
      rw (add-one, drop-cons rows k [])
      (held-append n ask w xs (parts_among (least_root f.prefix) f ls (left_of ask piece (get_or rows k []))) (under_rows ask f piece (suc k) (drop (suc k) rows))
      ∙ ap (λ (l : List RootCandidate). held_all n ask w l (under_rows ask f piece (suc k) (drop (suc k) rows))) (sym y))

  pub under_end : (xs : List RootCandidate) → length rows ≤ k → held_all n ask w xs (under_rows ask f piece k (drop k rows)) ≡ xs
  unfolding held_all
  under_end xs h = rw (drop_of_length-le rows h)

-- All forms.

module _ (n : ℕ) (ask : Ask) (w : List ℕ) (rows : List (List ℕ)) (k : ℕ) where
  pub forms-some : (xs ys : List RootCandidate) (form : List ℕ) (from : ℕ) → k < length rows → form ≡ get_or rows k [] → Some from ≡ rest_of w form
      → ys ≡ held_all n ask w xs (bare w (front_at k from) ∷ one_suffix ask w (front_at k from))
      → held_all n ask w xs (under_forms ask w k (drop k rows)) ≡ held_all n ask w ys (under_forms ask w (k + 1) (drop (k + 1) rows))
  unfolding under_form
  forms-some xs ys form from h e o q =
      let l : leaves w (get_or rows k []) ≡ true = ap (leaves w) (sym e) ∙ (rest_from w form from o).0 in
      let m : from ≡ length (get_or rows k []) = (rest_from w form from o).1 ∙ ap length e in
      let f = front_at k (length (get_or rows k [])) in
      let y : ys ≡ held_all n ask w xs (bare w f ∷ one_suffix ask w f) =
      q ∙ ap (λ (x : ℕ). held_all n ask w xs (bare w (front_at k x) ∷ one_suffix ask w (front_at k x))) m in
      rw (add-one, drop-cons rows k [], l)
      (held-append n ask w xs (bare w f ∷ one_suffix ask w f) (under_forms ask w (suc k) (drop (suc k) rows))
      ∙ ap (λ (x : List RootCandidate). held_all n ask w x (under_forms ask w (suc k) (drop (suc k) rows))) (sym y))

  pub forms-none : (xs : List RootCandidate) (form : List ℕ) → k < length rows → form ≡ get_or rows k [] → None ≡ rest_of w form
      → held_all n ask w xs (under_forms ask w k (drop k rows)) ≡ held_all n ask w xs (under_forms ask w (k + 1) (drop (k + 1) rows))
  unfolding under_form
  forms-none xs form h e o =
      let l : leaves w (get_or rows k []) ≡ false = ap (leaves w) (sym e) ∙ rest_nothing w form o in
      rw (add-one, drop-cons rows k [], l)

  pub forms-end : (xs : List RootCandidate) → length rows ≤ k → held_all n ask w xs (under_forms ask w k (drop k rows)) ≡ xs
  unfolding held_all
  forms-end xs h = rw (drop_of_length-le rows h)
