-- The character at the front of a text, read byte by byte; its number; and the short ways of `look`. The proofs of seen.rt cite these.
-- Assumes nothing.
use Prim.Native.Nat.{ℕ, suc, ◌+◌, ◌-◌, ◌*◌, ◌≤◌, ◌<◌}
use native.Mathlib.Nat.{add-zero}
use native.Mathlib.Numerals.{add-one}
use native.Mathlib.Omega.{arith}
use borrow.Author.Tests.{le-leb}
use Rattle.std.proofs.lemmas.Bool.{both_ways, agree_below_at}
use Rattle.std.proofs.lemmas.Bool.Decides.{nat_tests}
use Rattle.std.proofs.lemmas.Option.{none-some, same_Some}
use Rattle.std.specs.declared.option.Option.TheVariants.{Some, None}
use mathlib.Core.Path.{◌≡◌, refl, sym, ap, ◌∙◌}
use mathlib.Core.Bool.{Bool, true, false, ◌&&◌}
use mathlib.Core.List.{List, [], ◌∷◌}
use lib.ListN.{length, take, drop, get_or, drop_of_length-le}
use lib.Seq.{drop-cons}
use lib.Dec.{eqb, leb}
use Rattle.runs.specs.Runs.{pick}
use Rattle.text.specs.Utf8.{from_to, within, tail, utf8_char, Owed, owes, misfit, opened, after, whole}
use Rattle.text.proofs.Ranges.{inside, below}
use Rattle.tokenizer.specs.Scalars.{scalar}
use Rattle.tokenizer.specs.Parting.{parts, among, white_space, punctuation, devanagari}
use Rattle.tokenizer.specs.Scanned.{fits, width_by, width}
use Rattle.tokenizer.specs.Looked.{sized, sight, seen}

-- how many bytes the character has of which n are read and that leaves o to come, where s follows
abbrev pub size_by : ℕ → Owed → List ℕ → ℕ
size_by n misfit s = 0
size_by n (owes rs) s = pick (fits rs s) (n + length rs) 0

-- a place of a text and what follows
pub here : (s : List ℕ) (at : ℕ) → at < length s → drop at s ≡ get_or s at 0 ∷ drop (at + 1) s
here s at h = rw (add-one) (drop-cons s at 0 h)

-- the same where the character is not whole yet
abbrev pub size_past : ℕ → Owed → List ℕ → ℕ
size_past n o [] = 0
size_past n o (b ∷ s) = size_by (n + 1) (after o b) s

pub size_start : (s : List ℕ) → width s ≡ size_past 0 (owes []) s
unfolding width after
size_start [] = refl
size_start (b ∷ s) = by (opened utf8_char b)
  where
    by : (o : Owed) → width_by o s ≡ size_by (0 + 1) o s
    by misfit = refl
    by (owes rs) = let p : suc (length rs) ≡ 0 + 1 + length rs = omega arith in rw p

size_on : (n : ℕ) (o : Owed) (s : List ℕ) → whole o ≡ false → size_by n o s ≡ size_past n o s
unfolding fits after
size_on n misfit [] e = refl
size_on n misfit (b ∷ s) e = refl
size_on n (owes []) s e = absurd (both_ways _ e refl)
size_on n (owes (r ∷ rs)) [] e = refl
size_on n (owes (r ∷ rs)) (b ∷ s) e = by (within r b)
  where
    by : (x : Bool) → pick (x && fits rs s) (n + suc (length rs)) 0 ≡ size_by (n + 1) (pick x (owes rs) misfit) s
    by true = let p : n + suc (length rs) ≡ n + 1 + length rs = omega arith in rw p
    by false = refl

size_whole : (n : ℕ) (o : Owed) (s : List ℕ) → whole o ≡ true → size_by n o s ≡ n
unfolding fits
size_whole n misfit s e = absurd (both_ways _ refl e)
size_whole n (owes []) s e = add-zero n
size_whole n (owes (r ∷ rs)) s e = absurd (both_ways _ refl e)

-- one more byte: the character goes on, or is whole; or the text has ended
module _ (s : List ℕ) (k : ℕ) (o : Owed) (w : width s ≡ size_past k o (drop k s)) where
  next_size : (o' : Owed) → k < length s → o' ≡ after o (get_or s k 0) → width s ≡ size_by (k + 1) o' (drop (k + 1) s)
  next_size o' h e = w ∙ rw (here s k h, e)

  pub size_goes : (o' : Owed) → k < length s → o' ≡ after o (get_or s k 0) → whole o' ≡ false → width s ≡ size_past (k + 1) o' (drop (k + 1) s)
  size_goes o' h e f = next_size o' h e ∙ size_on (k + 1) o' (drop (k + 1) s) f

  pub size_some : (o' : Owed) → k < length s → o' ≡ after o (get_or s k 0) → whole o' ≡ true → Some (k + 1) ≡ sized s
  unfolding sized
  size_some o' h e f = rw (next_size o' h e ∙ size_whole (k + 1) o' (drop (k + 1) s) f, le-leb 1 (k + 1) (omega arith))

  pub size_none : length s ≤ k → None ≡ sized s
  unfolding sized
  size_none h = rw (w, drop_of_length-le s h)

-- a character by its size and number
pub looked : (s : List ℕ) (n c : ℕ) (p d : Bool) → Some n ≡ sized s → c ≡ scalar (take n s) → p ≡ parts c → d ≡ devanagari c
    → Some (sight n p d) ≡ seen s
unfolding sized seen
looked s n c p d e f q r = by (leb 1 (width s)) refl e
  where
    by : (x : Bool) → leb 1 (width s) ≡ x → Some n ≡ pick x (Some (width s)) None
        → Some (sight n p d) ≡ pick x (Some (sight (width s) (parts (scalar (take (width s) s))) (devanagari (scalar (take (width s) s))))) None
    by true t g = let w : n ≡ width s = same_Some n (width s) g in rw (q, r, f, w)
    by false t g = absurd (none-some n (sym g))

pub unlooked : (s : List ℕ) → None ≡ sized s → None ≡ seen s
unfolding sized seen
unlooked s e = by (leb 1 (width s)) e
  where
    by : (x : Bool) → None ≡ pick x (Some (width s)) None
        → None ≡ pick x (Some (sight (width s) (parts (scalar (take (width s) s))) (devanagari (scalar (take (width s) s))))) None
    by true g = absurd (none-some (width s) g)
    by false g = refl

-- a character of three bytes whose first is E0
abbrev number_of : ℕ → ℕ → ℕ
number_of b c = (0xE0 - 0xE0) * 4096 + (b - 0x80) * 64 + (c - 0x80)

width_three : (b c : ℕ) (s : List ℕ) → within (from_to 0xA0 0xBF) b ≡ true → within tail c ≡ true → width (0xE0 ∷ b ∷ c ∷ s) ≡ 3
unfolding width opened utf8_char within fits
width_three b c s e f = rw (e, f)

-- । alone parts of U+0900 to U+097F
mark : (i : ℕ) → i < 128 → eqb i 0x64 ≡ parts (0x900 + i)
unfolding parts among within white_space punctuation
mark i h = agree_below_at (λ k. eqb k 0x64) (λ k. parts (0x900 + k)) 128 i refl h

danda : (b c : ℕ) → 0xA4 ≤ b → b ≤ 0xA5 → 0x80 ≤ c → c ≤ 0xBF → (eqb b 0xA5 && eqb c 0xA4) ≡ parts (number_of b c)
danda b c h k l m =
    let i = (b - 0xA4) * 64 + (c - 0x80) in
    let e : 0x900 + i ≡ number_of b c = omega arith in
    let t : (eqb b 0xA5 && eqb c 0xA4) ≡ eqb i 0x64 = grind (arith, nat_tests) in
    t ∙ mark i (omega arith) ∙ ap parts e

-- the two short ways
pub look_three : (s : List ℕ) (p : Bool) → 3 ≤ length s → get_or s 0 0 ≡ 0xE0 → 0xA4 ≤ get_or s 1 0 → get_or s 1 0 ≤ 0xA5 → 0x80 ≤ get_or s 2 0 → get_or s 2 0 ≤ 0xBF
    → p ≡ (eqb (get_or s 1 0) 0xA5 && eqb (get_or s 2 0) 0xA4) → Some (sight 3 p true) ≡ seen s
unfolding seen scalar devanagari
look_three [] p h e i j k l m = absurd (omega arith)
look_three (a ∷ []) p h e i j k l m = absurd (omega arith)
look_three (a ∷ b ∷ []) p h e i j k l m = absurd (omega arith)
look_three (a ∷ b ∷ c ∷ s) p h e i j k l m =
    let w : width (0xE0 ∷ b ∷ c ∷ s) ≡ 3 = width_three b c s (inside (from_to 0xA0 0xBF) b (omega arith) (omega arith)) (inside tail c k l) in
    let d : devanagari (number_of b c) ≡ true = inside (from_to 0x0900 0x097F) (number_of b c) (omega arith) (omega arith) in
    rw (e, w, m, danda b c i j k l, d)

pub look_ascii : (s : List ℕ) (p : Bool) → 1 ≤ length s → get_or s 0 0 < 0x80 → p ≡ parts (get_or s 0 0) → Some (sight 1 p false) ≡ seen s
unfolding seen scalar devanagari width opened utf8_char fits
look_ascii [] p h e f = absurd (omega arith)
look_ascii (a ∷ s) p h e f =
    rw (inside (from_to 0x00 0x7F) a (omega arith) (omega arith), below (from_to 0x0900 0x097F) a (omega arith), f)
