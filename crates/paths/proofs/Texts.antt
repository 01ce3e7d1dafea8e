-- What the rows say that tells paths apart, each by one computed test: the 25 texts are pairwise different, none of them ends both a
-- piece and the piece with a character more, and of prefix rows with the same label at most one begins a piece. Unique cites
-- these laws. Assumes nothing.
use Prim.Native.Nat.{ℕ, ◌+◌, ◌-◌, ◌≤◌, ◌<◌}
use native.Mathlib.Omega.{arith}
use mathlib.Core.Path.{◌≡◌, refl, sym, ap, ◌∙◌}
use mathlib.Core.Bool.{Bool, true, false, not, ◌&&◌, ◌||◌}
use mathlib.Core.List.{List, [], ◌++◌, append_assoc}
use lib.ListN.{length, take, drop, get_or, length-append, length-drop, take-append-drop}
use lib.Seq.{take_at}
use borrow.Author.Tests.{not-true}
use Rattle.runs.specs.Runs.{same_text, begins_with, ends_in}
use Rattle.runs.proofs.Ordered.{Stand, below, above, alike, stand, same_refl}
use Rattle.runs.proofs.Ends.{ends_split, split_ends}
use Rattle.tables.specs.Rows.{prefix_labels, prefix_forms, plural_markers, case_markers, particles}
use Rattle.tables.specs.Tables.{affixes}
use Rattle.tables.proofs.Tested.{at, at_two}
use Rattle.tables.proofs.Compared.{both_begin, both_end}
use Rattle.paths.specs.Chains.{all_forms, all_rows, form_of}
use Rattle.paths.specs.Readings.{label_of}

never : {P : Type 0} → ◌≡◌ {A = Bool} false true → P
never e = let z : ◌≡◌ {A = ℕ} 0 1 = cc in absurd (omega arith)

-- two rows of one table, told apart by a test that no two different rows pass
one-row : (i j : ℕ) → (i < j → ⊥) → (j < i → ⊥) → i ≡ j
one-row i j a b = go (stand i j)
  where
    go : Stand i j → i ≡ j
    go (below h) = absurd (a h)
    go (above h) = absurd (b h)
    go (alike e) = e

texts_differ : (i j : ℕ) → i < j → j < all_rows → get_or affixes i [] ≡ get_or affixes j [] → ⊥
unfolding affixes plural_markers case_markers particles
texts_differ i j l h e =
    let x = get_or affixes i [] in
    let f : same_text x (get_or affixes j []) ≡ false = not-true _ (at_two (λ i j x y. not (same_text x y)) affixes refl i j [] l h) in
    never (sym f ∙ ap (same_text x) (sym e) ∙ same_refl x)

-- a text says its row
pub text-row : (i j : ℕ) → i < all_rows → j < all_rows → get_or affixes i [] ≡ get_or affixes j [] → i ≡ j
text-row i j h k e = one-row i j (λ l. texts_differ i j l k e) (λ l. texts_differ j i l h (sym e))

-- without its last three bytes
abbrev front : List ℕ → List ℕ
front t = take (length t - 3) t

unlike : (k : ℕ) → k < all_rows → (ends_in (get_or affixes k []) (front (get_or affixes k [])) || ends_in (front (get_or affixes k [])) (get_or affixes k [])) ≡ false
unfolding affixes plural_markers case_markers particles
unlike k h = not-true _ (at (λ k t. not (ends_in t (front t) || ends_in (front t) t)) affixes refl k [] h)

-- what ends in t with three bytes behind it ends, without them, in t's front
shift_ends : (p c t : List ℕ) → length c ≡ 3 → 3 ≤ length t → ends_in t (p ++ c) ≡ true → ends_in (front t) p ≡ true
shift_ends p c t h l e =
    let a = take (length (p ++ c) - length t) (p ++ c) in
    let q : p ++ c ≡ (a ++ front t) ++ drop (length t - 3) t =
    ends_split t (p ++ c) e ∙ ap (λ (s : List ℕ). a ++ s) (sym (take-append-drop (length t - 3) t)) ∙ sym (append_assoc a (front t) (drop (length t - 3) t)) in
    let d : length (drop (length t - 3) t) ≡ 3 = length-drop (length t - 3) t ∙ omega arith in
    let n : length p + length c ≡ length (a ++ front t) + length (drop (length t - 3) t) =
    sym (length-append p c) ∙ ap length q ∙ length-append (a ++ front t) (drop (length t - 3) t) in
    let z : p ≡ a ++ front t = sym (take_at p c (length p) refl) ∙ ap (take (length p)) q ∙ take_at (a ++ front t) _ (length p) (omega arith) in
    rw z (split_ends a (front t))

-- no text ends both a piece and the piece with three bytes more
pub ends-once : (k : ℕ) → k < all_rows → (p c : List ℕ) → length c ≡ 3 → 3 ≤ length (get_or affixes k []) → ends_in (get_or affixes k []) p ≡ true
    → ends_in (get_or affixes k []) (p ++ c) ≡ true → ⊥
ends-once k h p c n l e f =
    let t = get_or affixes k [] in
    never (sym (unlike k h) ∙ both_end t (front t) p e (shift_ends p c t n l f))

-- prefix rows

labels_differ : (piece : List ℕ) (i j : ℕ) → i < j → j < all_forms → begins_with (form_of i) piece ≡ true → begins_with (form_of j) piece ≡ true
    → label_of i ≡ label_of j → ⊥
unfolding prefix_forms prefix_labels
labels_differ piece i j l h p q e =
    let f : ((begins_with (form_of i) (form_of j) || begins_with (form_of j) (form_of i)) && same_text (label_of i) (label_of j)) ≡ false =
    not-true _ (at_two (λ i j x y. not ((begins_with x y || begins_with y x) && same_text (label_of i) (label_of j))) prefix_forms refl i j [] l h) in
    let g : same_text (label_of i) (label_of j) ≡ true = ap (same_text (label_of i)) (sym e) ∙ same_refl (label_of i) in
    never (sym f ∙ rw (both_begin (form_of i) (form_of j) piece p q) g)

-- at one piece a label says its row
pub label-row : (piece : List ℕ) (i j : ℕ) → i < all_forms → j < all_forms → begins_with (form_of i) piece ≡ true → begins_with (form_of j) piece ≡ true
    → label_of i ≡ label_of j → i ≡ j
label-row piece i j h k p q e =
    one-row i j (λ l. labels_differ piece i j l k p q e) (λ l. labels_differ piece j i l h q p (sym e))
