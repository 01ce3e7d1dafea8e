-- The first character of a text: where it ends another begins, and of UTF-8 text it is one character, UTF-8 itself. Cited for the
-- shared remainder. Assumes nothing.
use mathlib.Core.Path.{◌≡◌, refl, ap, ◌∙◌}
use mathlib.Core.Bool.{true}
use mathlib.Core.List.{List, [], ◌∷◌}
use Prim.Native.Nat.{ℕ, suc, ◌<◌}
use native.Mathlib.Omega.{arith}
use lib.ListN.{length, take, drop, take-append-drop}
use borrow.Author.Tests.{eqb-true, eq-eqb}
use Rattle.text.specs.Utf8.{is_utf8}
use Rattle.text.specs.Characters.{opens, chars}
use Rattle.strips.specs.Suffix.{goes_on, first_length, first_character}
use Rattle.strips.proofs.Parts.{begun, by_byte, utf8_begun, utf8_before}

goes_stop : (b : ℕ) (s : List ℕ) → opens b ≡ 1 → goes_on (b ∷ s) ≡ 0
goes_stop b s o = rw o

goes_more : (b : ℕ) (s : List ℕ) → opens b ≡ 0 → goes_on (b ∷ s) ≡ suc (goes_on s)
goes_more b s o = rw o

goes_begun : (s : List ℕ) → begun (drop (goes_on s) s) ≡ true
goes_begun [] = refl
goes_begun (b ∷ s) = by_byte b (λ o. rw (goes_stop b s o) (eq-eqb (opens b) 1 o)) (λ l h o. rw (goes_more b s o) (goes_begun s))

goes_chars : (s : List ℕ) → chars (take (goes_on s) s) ≡ 0
unfolding chars
goes_chars [] = refl
goes_chars (b ∷ s) =
    by_byte b (λ o. rw (goes_stop b s o))
    (λ l h o. ap (λ (n : ℕ). chars (take n (b ∷ s))) (goes_more b s o) ∙ (let k = goes_chars s in omega arith))

pub first_utf8 : (t : List ℕ) → is_utf8 t ≡ true → is_utf8 (first_character t) ≡ true
first_utf8 [] e = e
first_utf8 (b ∷ s) e = utf8_before (b ∷ take (goes_on s) s) (drop (goes_on s) s) (rw (take-append-drop (goes_on s) s) e) (goes_begun s)

pub first_one : (t : List ℕ) → is_utf8 t ≡ true → 0 < length t → chars (first_character t) ≡ 1
unfolding chars
first_one [] e h = absurd (omega arith)
first_one (b ∷ s) e h = rw (eqb-true (opens b) 1 (utf8_begun (b ∷ s) e), goes_chars s)

-- a text of more than one character is longer than its first
goes_less : (s : List ℕ) → 0 < chars s → goes_on s < length s
unfolding chars
goes_less [] h = absurd (omega arith)
goes_less (b ∷ s) h =
    by_byte b (λ o. let k = goes_stop b s o in omega arith)
    (λ l m o.
    let k = goes_more b s o in
    let n = goes_less s (omega arith) in
    omega arith)

pub first_less : (t : List ℕ) → 1 < chars t → first_length t < length t
unfolding chars
first_less [] h = absurd (omega arith)
first_less (b ∷ s) h = by_byte b (λ o. let k = goes_less s (omega arith) in omega arith) (λ l m o. let k = goes_less s (omega arith) in omega arith)
