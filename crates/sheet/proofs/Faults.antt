-- A faulty line begins inside the sheet. Whoever hands its place on as a number cites this. Assumes nothing.
use Rattle.std.specs.Prelude.{Err, Ok, Result}
use Prim.Native.Nat.{ℕ, suc, ◌+◌, ◌<◌, ◌≤◌}
use native.Mathlib.Omega.{arith}
use mathlib.Core.Path.{◌≡◌, refl}
use mathlib.Core.Bool.{Bool, true, false}
use mathlib.Core.List.{List, [], ◌∷◌}
use lib.ListN.{length, drop}
use lib.Dec.{eqb, ltb}
use borrow.Author.Tests.{ltb-false}
use Rattle.runs.specs.Runs.{pick, cmp, is_less}
use Rattle.sheet.specs.Forms.{is_form, key}
use Rattle.sheet.specs.Limits.{sheet_limit}
use Rattle.sheet.specs.Lines.{lead, starts_from, starts_of, line_at, judged, sheet_check}
use Rattle.sheet.specs.declared.check.SheetFault.{SheetFault}
use Rattle.sheet.specs.declared.check.SheetFault.TheVariants.{TooLong, NoForm, NotAbove}

-- every place lies below n
abbrev pub Below : ℕ → List ℕ → Type 0
Below n [] = Unit {0}
Below n (a ∷ places) = (a < n) × Below n places

pub starts-below : (fresh : Bool) (n : ℕ) (s : List ℕ) (top : ℕ) → n + length s ≤ top → Below top (starts_from fresh n s)
starts-below fresh n [] top h = tt
starts-below fresh n (b ∷ s) top h = by fresh (omega arith) (starts-below (eqb b 0x0A) (suc n) s top (omega arith))
  where
    by : (f : Bool) → n < top → Below top (starts_from (eqb b 0x0A) (suc n) s) → Below top (lead f n (starts_from (eqb b 0x0A) (suc n) s))
    by true k r = (k, r)
    by false k r = r

-- the place that an answer names, if it names one, lies below n
abbrev pub Inside : ℕ → Result (Unit {0}) SheetFault → Type 0
Inside n (Ok _) = Unit {0}
Inside n (Err TooLong) = Unit {0}
Inside n (Err (NoForm at)) = at < n
Inside n (Err (NotAbove at)) = at < n

judged-inside : (s last places : List ℕ) (n : ℕ) → Below n places → Inside n (judged s last places)
unfolding judged
judged-inside s last [] n h = tt
judged-inside s last (at ∷ places) n h = by (is_form (drop at s)) (is_less (cmp last (key (line_at s at)))) (judged-inside s (key (line_at s at)) places n h.1)
  where
    by : (f a : Bool) → Inside n (judged s (key (line_at s at)) places) → Inside n (pick f (pick a (judged s (key (line_at s at)) places) (Err (NotAbove at))) (Err (NoForm at)))
    by true true r = r
    by true false r = h.0
    by false a r = h.0

pub fault-inside : (s : List ℕ) → Inside sheet_limit (sheet_check s)
unfolding sheet_check
fault-inside s = by (ltb sheet_limit (length s)) refl
  where
    by : (b : Bool) → ltb sheet_limit (length s) ≡ b → Inside sheet_limit (pick b (Err TooLong) (judged s [] (starts_of s)))
    by true e = tt
    by false e = judged-inside s [] (starts_of s) sheet_limit (starts-below true 0 s sheet_limit (let k = ltb-false sheet_limit (length s) e in omega arith))
