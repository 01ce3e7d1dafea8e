-- Which characters part, stretch by stretch: in each stretch the two lists of ranges are the few ranges that the code names, by computed
-- tests. The proofs of parting.rt and `look` cite these. And any stretch that no range reaches, which they don't need. Assumes nothing.
use Prim.Native.Nat.{ℕ, zero, suc, ◌+◌, ◌-◌, ◌/◌, ◌^◌, ◌≤◌, ◌<◌}
use native.Mathlib.Omega.{arith}
use mathlib.Core.Path.{◌≡◌, refl, sym, ◌∙◌}
use mathlib.Core.Logic.{⊎_elim}
use mathlib.Core.Bool.{Bool, true, false, ◌&&◌, ◌||◌}
use mathlib.Core.List.{List, [], ◌∷◌}
use lib.Dec.{ltb, leb, eqb}
use lib.Bits.{bit_and}
use borrow.Author.Tests.{ltb-true, leb-true, le-ltb}
use Rattle.std.proofs.lemmas.Bool.{agree_below_at, and_parts, or_cases, cases_eq}
use Rattle.text.specs.Utf8.{Range, within}
use Rattle.text.proofs.Ranges.{below, above}
use Rattle.tokenizer.specs.Marks.{general}
use Rattle.tokenizer.specs.Parting.{one, among, white_space, punctuation, parts}

-- each of n numbers from a on passes
abbrev each : ℕ → ℕ → (ℕ → Bool) → Bool
each a zero f = true
each a (suc n) f = f a && each (suc a) n f

each_at : (a n : ℕ) (f : ℕ → Bool) → each a n f ≡ true → (c : ℕ) → a ≤ c → c < a + n → f c ≡ true
each_at a zero f e c h k = absurd (omega arith)
each_at a (suc n) f e c h k =
    let p = and_parts (f a) (each (suc a) n f) e in
    ⊎_elim (λ q. rw (← q) p.0) (λ q. each_at (suc a) n f p.1 c (omega arith) (omega arith)) (cases_eq a c)

-- each number in the ranges passes
abbrev covered : List Range → (ℕ → Bool) → Bool
covered [] f = true
covered (r ∷ rs) f = each r.low (suc r.high - r.low) f && covered rs f

covered_at : (rs : List Range) (f : ℕ → Bool) → covered rs f ≡ true → (c : ℕ) → among rs c ≡ true → f c ≡ true
unfolding among within
covered_at [] f e c m = let z : ◌≡◌ {A = ℕ} 0 1 = cc in absurd (omega arith)
covered_at (r ∷ rs) f e c m =
    let p = and_parts (each r.low (suc r.high - r.low) f) (covered rs f) e in
    ⊎_elim
    (λ w. let q = and_parts (leb r.low c) (leb c r.high) w in
    let l = leb-true r.low c q.0 in
    let k = leb-true c r.high q.1 in
    each_at r.low (suc r.high - r.low) f p.0 c l (omega arith))
    (λ w. covered_at rs f p.1 c w)
    (or_cases (leb r.low c && leb c r.high) (among rs c) m)

-- from lo to hi the lists hold what these ranges hold
abbrev inner : ℕ → ℕ → List Range → ℕ → Bool
inner lo hi rs c = ltb c lo || ltb hi c || among rs c

module _ (lo hi : ℕ) (rs : List Range) (w : covered white_space (inner lo hi rs) ≡ true) (p : covered punctuation (inner lo hi rs) ≡ true) (q : covered rs parts ≡ true) where
  stretch : (c : ℕ) → lo ≤ c → c ≤ hi → parts c ≡ among rs c
  unfolding parts
  stretch c h k = by (parts c) (among rs c) refl refl
    where
      named : inner lo hi rs c ≡ true → among rs c ≡ true
      named e = rw (le-ltb c lo h, le-ltb hi c k) at e

      by : (x y : Bool) → parts c ≡ x → among rs c ≡ y → x ≡ y
      by true y e f =
          sym (⊎_elim (λ m. named (covered_at white_space (inner lo hi rs) w c m)) (λ m. named (covered_at punctuation (inner lo hi rs) p c m)) (or_cases (among white_space c) (among punctuation c) e)) ∙ f
      by false true e f = sym e ∙ covered_at rs parts q c f
      by false false e f = refl

-- a bit for each of the first 64 characters
pub low_mask : (b : ℕ) → b < 64 → eqb (bit_and (0x8C00F38700003E00 / (2 ^ b)) 1) 1 ≡ parts b
unfolding parts among within white_space punctuation
low_mask b h = agree_below_at (λ i. eqb (bit_and (0x8C00F38700003E00 / (2 ^ i)) 1) 1) parts 64 b refl h

abbrev pub bracket : List Range
bracket = one 0x5B ∷ one 0x5D ∷ one 0x7B ∷ one 0x7D ∷ []

pub brackets : (b : ℕ) → 64 ≤ b → b < 0x80 → parts b ≡ among bracket b
unfolding parts among within white_space punctuation
brackets b h k = stretch 0x40 0x7F bracket refl refl refl b h (omega arith)

pub general_marks : (c : ℕ) → 0x2000 ≤ c → c < 0x2040 → parts c ≡ among general c
unfolding parts among within white_space punctuation
general_marks c h k = stretch 0x2000 0x203F general refl refl refl c h (omega arith)

abbrev pub low : List Range
low = one 0x85 ∷ one 0xA0 ∷ one 0x964 ∷ one 0x1680 ∷ []

pub low_marks : (c : ℕ) → 0x80 ≤ c → c < 0x2000 → parts c ≡ among low c
unfolding parts among within white_space punctuation
low_marks c h k = stretch 0x80 0x1FFF low refl refl refl c h (omega arith)

abbrev pub high : List Range
high = one 0x205F ∷ one 0x3000 ∷ []

pub high_marks : (c : ℕ) → 0x2040 ≤ c → c < 0x100000000 → parts c ≡ among high c
unfolding parts among within white_space punctuation
high_marks c h k = stretch 0x2040 0xFFFFFFFF high refl refl refl c h (omega arith)

-- no range reaches into the stretch from lo to hi
abbrev pub clear : ℕ → ℕ → List Range → Bool
clear lo hi [] = true
clear lo hi (r ∷ rs) = (ltb r.high lo || ltb hi r.low) && clear lo hi rs

none-among : (lo hi c : ℕ) (rs : List Range) → clear lo hi rs ≡ true → lo ≤ c → c ≤ hi → among rs c ≡ false
unfolding among
none-among lo hi c [] e h k = refl
none-among lo hi c (r ∷ rs) e h k =
    let p = and_parts (ltb r.high lo || ltb hi r.low) (clear lo hi rs) e in
    let out : within r c ≡ false = ⊎_elim (λ q. let l = ltb-true r.high lo q in above r c (omega arith)) (λ q. let l = ltb-true hi r.low q in below r c (omega arith))
    (or_cases (ltb r.high lo) (ltb hi r.low) p.0) in
    rw out (none-among lo hi c rs p.1 h k)

pub gap : (lo hi c : ℕ) → clear lo hi white_space ≡ true → clear lo hi punctuation ≡ true → lo ≤ c → c ≤ hi → parts c ≡ false
unfolding parts
gap lo hi c w p h k = rw (none-among lo hi c white_space w h k) (none-among lo hi c punctuation p h k)
