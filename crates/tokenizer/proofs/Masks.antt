-- Which characters part, as bits of a mask: one computed test for each mask of 64 characters. The code has the first mask alone; the other
-- two say the same stretches as `Parted.{brackets, general_marks}`. Assumes nothing.
use Prim.Native.Nat.{ℕ, zero, suc, ◌+◌, ◌-◌, ◌/◌, ◌^◌, ◌≤◌, ◌<◌}
use native.Mathlib.Nat.{eq-or-lt_of_le, le_of_suc-le-suc}
use native.Mathlib.Omega.{arith}
use mathlib.Core.Path.{◌≡◌, refl, sym, subst}
use mathlib.Core.Logic.{⊎_elim}
use mathlib.Core.Bool.{Bool, true, false, ◌&&◌}
use lib.Dec.{eqb}
use lib.Bits.{bit_and}
use Rattle.runs.proofs.Begins.{and_left, and_right}
use Rattle.text.specs.Utf8.{within}
use Rattle.tokenizer.specs.Parting.{among, white_space, punctuation, parts}

-- the test holds for every number below n
abbrev every : ℕ → (ℕ → Bool) → Bool
every zero f = true
every (suc n) f = f n && every n f

every_at : (n : ℕ) (f : ℕ → Bool) → every n f ≡ true → (i : ℕ) → i < n → f i ≡ true
every_at zero f e i h = absurd (omega arith)
every_at (suc n) f e i h =
    ⊎_elim (λ q. subst (λ (x : ℕ). f x ≡ true) (sym q) (and_left _ _ e)) (λ k. every_at n f (and_right (f n) _ e) i k) (eq-or-lt_of_le (le_of_suc-le-suc h))

abbrev alike : Bool → Bool → Bool
alike true b = b
alike false true = false
alike false false = true

alike_same : (a b : Bool) → alike a b ≡ true → a ≡ b
alike_same true true e = refl
alike_same true false e = sym e
alike_same false true e = e
alike_same false false e = refl

-- bit i of a mask
abbrev bit_of : ℕ → ℕ → Bool
bit_of mask i = eqb (bit_and (mask / (2 ^ i)) 1) 1

-- the mask has the bit of each parting character of 64 from `first` on
module _ (mask first : ℕ) (test : every 64 (λ i. alike (bit_of mask i) (parts (first + i))) ≡ true) where
  masked : (c : ℕ) → first ≤ c → c < first + 64 → bit_of mask (c - first) ≡ parts c
  masked c h k =
      let p : first + (c - first) ≡ c = omega arith in
      subst (λ (x : ℕ). bit_of mask (c - first) ≡ parts x) p
      (alike_same _ _ (every_at 64 (λ i. alike (bit_of mask i) (parts (first + i))) test (c - first) (omega arith)))

abbrev low_mask : ℕ
low_mask = 0x8C00F38700003E00

abbrev high_mask : ℕ
high_mask = 0x2800000028000000

abbrev general_mask : ℕ
general_mask = 0x8340331807FF

pub low : (c : ℕ) → c < 64 → bit_of low_mask c ≡ parts c
unfolding parts among within white_space punctuation
low c h = let p : c - 0 ≡ c = omega arith in rw p at (masked low_mask 0 refl c (omega arith) (omega arith))

pub high : (c : ℕ) → 64 ≤ c → c < 128 → bit_of high_mask (c - 64) ≡ parts c
unfolding parts among within white_space punctuation
high c h k = masked high_mask 64 refl c h (omega arith)

pub general : (c : ℕ) → 0x2000 ≤ c → c < 0x2040 → bit_of general_mask (c - 0x2000) ≡ parts c
unfolding parts among within white_space punctuation
general c h k = masked general_mask 0x2000 refl c h (omega arith)
