-- Never more than 16 candidates: the word, the decomposition, 4 with one suffix, and 5 under each of two prefix rows. At most two
-- rows of SUFFIXES end one piece, and at most two prefix forms begin it. So a list with room for 16 holds all. Assumes nothing.
use Rattle.std.specs.Prelude.{Err, Ok, Result}
use Rattle.refusals.specs.declared.Refusal.{Refusal}
use Prim.Native.Nat.{ℕ, suc, ◌+◌, ◌*◌, ◌<◌, ◌≤◌}
use native.Mathlib.Omega.{arith}
use mathlib.Core.Path.{◌≡◌, refl, sym, ap, ◌∙◌}
use mathlib.Core.Bool.{Bool, true, false, ◌&&◌}
use mathlib.Core.List.{List, [], ◌∷◌, ◌++◌}
use lib.ListN.{length, drop, length-append}
use lib.Dec.{leb, ltb}
use borrow.Author.Tests.{lt-ltb}
use Rattle.runs.specs.Runs.{pick, begins_with, ends_in}
use Rattle.text.specs.Characters.{chars}
use Rattle.tables.specs.Rows.{prefix_forms, suffixes}
use Rattle.tables.proofs.Facts.{suffix-count, prefix_form_count}
use Rattle.tables.proofs.Matches.{two_suffixes, two_prefix_forms}
use Rattle.tables.proofs.Passing.{passing, two}
use Rattle.sheet.specs.Letters.{is_known}
use Rattle.sheet.specs.Replies.{Ask, letters_by, reply}
use Rattle.sheet.specs.Inputs.{inputs_of}
use Rattle.sheet.specs.declared.letters.Letters.{Letters}
use Rattle.strips.specs.Suffix.{sheds, is_long, without, first_character, plain, shared, remainders}
use Rattle.strips.specs.Prefix.{leaves, least_after, after}
use Rattle.decomposition.specs.Strips.{label_row, least_root, is_kept, left_of, no_front, front_at}
use Rattle.decomposition.specs.Parts.{root_text, parts_of, decomposed_of}
use Rattle.decomposition.specs.declared.Parts.{Parts}
use Rattle.decomposition.specs.declared.fronts.Front.{Front}
use Rattle.roots.specs.Rank.{ahead_of}
use Rattle.roots.specs.Lists.{holds_in, ranked, once, root_limit}
use Rattle.roots.specs.Room.{once_within, held_of, held_all}
use Rattle.roots.specs.Candidates.{candidate_by, kept_of, kept_all, parts_among, under_row, under_rows, bare, one_suffix, under_form, under_forms, offers, candidates}
use Rattle.roots.specs.Answers.{roots_if, roots_for}
use Rattle.roots.proofs.Offered.{held-append}
use Rattle.roots.specs.declared.RootCandidate.{RootCandidate}

-- Remainders under one suffix: none, or two at most.

remainders-few : (piece suffix : List ℕ) → length (remainders piece suffix) ≤ 2 * pick (ends_in suffix piece) 1 0
unfolding remainders plain shared sheds
remainders-few piece suffix = go (ltb (length suffix) (length piece)) (ends_in suffix piece) (is_long suffix)
  where
    go : (a b c : Bool)
        → length (pick (a && b) (without piece suffix ∷ []) [] ++ pick ((a && b) && c) ((without piece suffix ++ first_character suffix) ∷ []) [])
        ≤ 2 * pick b 1 0
    go true true true = omega arith
    go true true false = omega arith
    go true false c = omega arith
    go false b c = omega arith

left-few : (ask : Ask) (piece suffix : List ℕ) → length (left_of ask piece suffix) ≤ 2 * pick (ends_in suffix piece) 1 0
unfolding left_of
left-few ask piece suffix = go (is_kept ask piece suffix)
  where
    go : (b : Bool) → length (pick b [] (remainders piece suffix)) ≤ 2 * pick (ends_in suffix piece) 1 0
    go true = omega arith
    go false = remainders-few piece suffix

among-few : (least : ℕ) (f : Front) (labels : List ℕ) (rs : List (List ℕ)) → length (parts_among least f labels rs) ≤ length rs
among-few least f labels [] = omega arith
among-few least f labels (r ∷ rs) = by (leb least (chars r)) (among-few least f labels rs)
  where
    by : (b : Bool) → length (parts_among least f labels rs) ≤ length rs
        → length (pick b (parts_of f r labels ∷ []) [] ++ parts_among least f labels rs) ≤ suc (length rs)
    by true h = omega arith
    by false h = omega arith

rows_few : (ask : Ask) (f : Front) (piece : List ℕ) (k : ℕ) (rows : List (List ℕ))
    → length (under_rows ask f piece k rows) ≤ 2 * passing (λ (t : List ℕ). ends_in t piece) [] rows
unfolding under_row
rows_few ask f piece k [] = omega arith
rows_few ask f piece k (suffix ∷ rows) =
    let u = parts_among (least_root f.prefix) f (label_row k ∷ []) (left_of ask piece suffix) in
    let a = among-few (least_root f.prefix) f (label_row k ∷ []) (left_of ask piece suffix) in
    let b = left-few ask piece suffix in
    let h = rows_few ask f piece (suc k) rows in
    rw (length-append u (under_rows ask f piece (suc k) rows)) (omega arith)

-- at most 4 with one suffix
pub suffix_few : (ask : Ask) (w : List ℕ) (f : Front) → length (one_suffix ask w f) ≤ 4
unfolding one_suffix
suffix_few ask w f =
    let piece = drop f.from w in
    let h = rows_few ask f piece 0 suffixes in
    let n : passing (λ (t : List ℕ). ends_in t piece) [] suffixes ≤ 2 =
    two (λ (t : List ℕ). ends_in t piece) [] suffixes (λ i j k l m b. two_suffixes piece i j k l m (rw suffix-count at b)) in
    omega arith

-- at most 10 behind a prefix
form-few : (ask : Ask) (w : List ℕ) (k : ℕ) (form : List ℕ) → length (under_form ask w k form) ≤ 5 * pick (begins_with form w) 1 0
unfolding under_form leaves
form-few ask w k form = go (begins_with form w) (leb (least_after form) (chars (after w form)))
  where
    go : (a b : Bool) → length (pick (a && b) (bare w (front_at k (length form)) ∷ one_suffix ask w (front_at k (length form))) []) ≤ 5 * pick a 1 0
    go true true = let h = suffix_few ask w (front_at k (length form)) in omega arith
    go true false = omega arith
    go false b = omega arith

forms-few : (ask : Ask) (w : List ℕ) (k : ℕ) (forms : List (List ℕ))
    → length (under_forms ask w k forms) ≤ 5 * passing (λ (t : List ℕ). begins_with t w) [] forms
forms-few ask w k [] = omega arith
forms-few ask w k (form ∷ forms) =
    let a = form-few ask w k form in
    let h = forms-few ask w (suc k) forms in
    rw (length-append (under_form ask w k form) (under_forms ask w (suc k) forms)) (omega arith)

pub prefix_few : (ask : Ask) (w : List ℕ) → length (under_forms ask w 0 prefix_forms) ≤ 10
prefix_few ask w =
    let h = forms-few ask w 0 prefix_forms in
    let n : passing (λ (t : List ℕ). begins_with t w) [] prefix_forms ≤ 2 =
    two (λ (t : List ℕ). begins_with t w) [] prefix_forms (λ i j k l m b. two_prefix_forms w i j k l m (rw prefix_form_count at b)) in
    omega arith

pub offers-few : (ask : Ask) (w : List ℕ) → length (offers ask w) ≤ root_limit
unfolding offers
offers-few ask w =
    let a = suffix_few ask w no_front in
    let b = prefix_few ask w in
    let n = length-append (one_suffix ask w no_front) (under_forms ask w 0 prefix_forms) in
    omega arith

-- A list with room for what is offered keeps it all.

ranked-length : (w : List ℕ) (r : RootCandidate) (xs : List RootCandidate) → length (ranked w r xs) ≡ suc (length xs)
unfolding ranked
ranked-length w r [] = refl
ranked-length w r (x ∷ xs) = by (ahead_of w r x) (ranked-length w r xs)
  where
    by : (b : Bool) → length (ranked w r xs) ≡ suc (length xs) → length (pick b (r ∷ x ∷ xs) (x ∷ ranked w r xs)) ≡ suc (suc (length xs))
    by true e = refl
    by false e = ap suc e

module _ (ask : Ask) (w : List ℕ) where
  kept_more : (xs : List RootCandidate) (p : Parts) → length (kept_of ask w xs p) ≤ suc (length xs)
  unfolding kept_of once
  kept_more xs p = go (is_known l) (holds_in w (candidate_by ask w p l).parts xs) (ranked-length w (candidate_by ask w p l) xs)
    where
      l : Letters
      l = letters_by ask (root_text w p)

      go : (a b : Bool) → length (ranked w (candidate_by ask w p l) xs) ≡ suc (length xs)
          → length (pick a (pick b xs (ranked w (candidate_by ask w p l) xs)) xs) ≤ suc (length xs)
      go true true e = omega arith
      go true false e = omega arith
      go false b e = omega arith

  held_kept : (n : ℕ) (xs : List RootCandidate) (p : Parts) → length xs < n → held_of n ask w xs p ≡ kept_of ask w xs p
  unfolding held_of kept_of once once_within
  held_kept n xs p h = rw (lt-ltb (length xs) n h)

  pub held_all_lem : (n : ℕ) (xs : List RootCandidate) (ps : List Parts) → length xs + length ps ≤ n → held_all n ask w xs ps ≡ kept_all ask w xs ps
  unfolding held_all kept_all
  held_all_lem n xs [] h = refl
  held_all_lem n xs (p ∷ ps) h =
      let e = held_kept n xs p (omega arith) in
      let m = kept_more xs p in
      ap (λ (l : List RootCandidate). held_all n ask w l ps) e ∙ held_all_lem n (kept_of ask w xs p) ps (omega arith)

  kept-length : (xs : List RootCandidate) (ps : List Parts) → length (kept_all ask w xs ps) ≤ length xs + length ps
  unfolding kept_all
  kept-length xs [] = omega arith
  kept-length xs (p ∷ ps) =
      let m = kept_more xs p in
      let h = kept-length (kept_of ask w xs p) ps in
      omega arith

  -- never more than 16
  pub candidates-few : length (candidates ask w) ≤ root_limit
  unfolding candidates
  candidates-few =
      let h = kept-length [] (offers ask w) in
      let n = offers-few ask w in
      omega arith

  -- what the code holds are the candidates
  pub held-candidates : held_all root_limit ask w [] (offers ask w) ≡ candidates ask w
  unfolding candidates
  held-candidates = let n = offers-few ask w in held_all_lem root_limit [] (offers ask w) (omega arith)

  -- the offers as the code makes them, in two parts
  pub collected_is : (xs ys zs : List RootCandidate) (p : Parts) → xs ≡ [] → p ≡ decomposed_of ask w
      → ys ≡ held_all root_limit ask w xs (bare w no_front ∷ p ∷ one_suffix ask w no_front) → zs ≡ held_all root_limit ask w ys (under_forms ask w 0 prefix_forms)
      → zs ≡ candidates ask w
  unfolding offers
  collected_is xs ys zs p e d q r =
      let first = bare w no_front ∷ decomposed_of ask w ∷ one_suffix ask w no_front in
      let y : ys ≡ held_all root_limit ask w [] first =
      q ∙ ap (λ (l : List RootCandidate). held_all root_limit ask w l (bare w no_front ∷ p ∷ one_suffix ask w no_front)) e
      ∙ ap (λ (x : Parts). held_all root_limit ask w [] (bare w no_front ∷ x ∷ one_suffix ask w no_front)) d in
      r ∙ ap (λ (l : List RootCandidate). held_all root_limit ask w l (under_forms ask w 0 prefix_forms)) y
      ∙ sym (held-append root_limit ask w [] first (under_forms ask w 0 prefix_forms))
      ∙ held-candidates

-- so an entry gives at most 16
pub roots_few : (word sheet : List ℕ) → length (roots_for word sheet) ≤ root_limit
unfolding roots_for
roots_few word sheet = by (inputs_of word sheet)
  where
    by : (i : Result (Unit {0}) Refusal) → length (roots_if i word sheet) ≤ root_limit
    by (Ok _) = candidates-few (reply sheet) word
    by (Err r) = omega arith
