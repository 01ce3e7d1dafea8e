-- The shape of a progressive form, taken apart: the ending behind its linked form, and the sign at the end of that. Agreed cites these
-- laws. Assumes nothing.
use Prim.Native.Nat.{ℕ, ◌+◌, ◌-◌, ◌≤◌}
use native.Mathlib.Omega.{arith}
use mathlib.Core.Path.{◌≡◌, refl, sym, ap, ◌∙◌}
use mathlib.Core.Bool.{Bool, true, false, ◌||◌}
use mathlib.Core.Logic.{◌⊎◌, inl, inr, ⊎_elim}
use mathlib.Core.List.{List, ◌++◌}
use lib.ListN.{length, take, length-append}
use lib.Seq.{length-take-le, take-take}
use Rattle.runs.specs.Runs.{ends_in}
use Rattle.runs.proofs.Begins.{and_left, and_right}
use Rattle.runs.proofs.Ends.{ends_split}
use Rattle.text.specs.Utf8.{is_utf8, run, after, opened, utf8_char, within}
use Rattle.sheet.specs.Forms.{sign_i, letter_i}
use Rattle.progressive.specs.Progressive.{raheko, raheki, raheka, letter_na, linked_of, stem_of, is_shaped}

or_split : (a b : Bool) → (a || b) ≡ true → (a ≡ true) ⊎ (b ≡ true)
or_split true b e = inl refl
or_split false b e = inr e

raheko_utf8 : is_utf8 raheko ≡ true
unfolding is_utf8 run after opened utf8_char within
raheko_utf8 = refl

raheki_utf8 : is_utf8 raheki ≡ true
unfolding is_utf8 run after opened utf8_char within
raheki_utf8 = refl

raheka_utf8 : is_utf8 raheka ≡ true
unfolding is_utf8 run after opened utf8_char within
raheka_utf8 = refl

sign_utf8 : is_utf8 sign_i ≡ true
unfolding is_utf8 run after opened utf8_char within
sign_utf8 = refl

letter_utf8 : is_utf8 letter_i ≡ true
unfolding is_utf8 run after opened utf8_char within
letter_utf8 = refl

pub na_utf8 : is_utf8 letter_na ≡ true
unfolding is_utf8 run after opened utf8_char within
na_utf8 = refl

-- the ending behind the linked form
pub ending : (p : List ℕ) → is_shaped p ≡ true → (e : List ℕ) × (is_utf8 e ≡ true) × (15 ≤ length p) × (linked_of p ++ e ≡ p)
unfolding is_shaped
ending p h =
    ⊎_elim (λ a. ⊎_elim (at raheko raheko_utf8 refl) (at raheki raheki_utf8 refl) (or_split _ _ a)) (at raheka raheka_utf8 refl) (or_split _ _ (and_left _ _ h))
  where
    at : (e : List ℕ) → is_utf8 e ≡ true → length e ≡ 15 → ends_in e p ≡ true → (e : List ℕ) × (is_utf8 e ≡ true) × (15 ≤ length p) × (linked_of p ++ e ≡ p)
    at e u n t =
        let s : p ≡ linked_of p ++ e = ends_split e p t ∙ ap (λ (k : ℕ). take (length p - k) p ++ e) n in
        let l : length p ≡ length (linked_of p) + length e = ap length s ∙ length-append (linked_of p) e in
        (e, u, omega arith, sym s)

-- the sign at the end of the linked form
pub signed : (p : List ℕ) → is_shaped p ≡ true → (s : List ℕ) × (is_utf8 s ≡ true) × (length s ≡ 3) × (stem_of p ++ s ≡ linked_of p)
unfolding is_shaped
signed p h =
    ⊎_elim (at sign_i sign_utf8 refl) (at letter_i letter_utf8 refl)
    (or_split _ _ (and_right (ends_in raheko p || ends_in raheki p || ends_in raheka p) _ h))
  where
    at : (s : List ℕ) → is_utf8 s ≡ true → length s ≡ 3 → ends_in s (linked_of p) ≡ true
        → (s : List ℕ) × (is_utf8 s ≡ true) × (length s ≡ 3) × (stem_of p ++ s ≡ linked_of p)
    at s u n t =
        let k : length (linked_of p) - length s ≡ length p - 18 =
        ap (λ (m : ℕ). m - length s) (length-take-le (length p - 15) p (omega arith)) ∙ omega arith in
        let z : take (length p - 18) (linked_of p) ≡ stem_of p = take-take (length p - 18) (length p - 15) p (omega arith) in
        (s, u, n, sym (ends_split s (linked_of p) t ∙ ap (λ (m : ℕ). take m (linked_of p) ++ s) k ∙ ap (λ (l : List ℕ). l ++ s) z))
