-- What a rescue gives fits its code. The proof of `yunthirel_rescue` cites it. Assumes nothing.
use Rattle.std.specs.Prelude.{Err, Ok, Result}
use Rattle.rescued.specs.declared.entry.Sizes.{Sizes}
use Rattle.refusals.specs.declared.Refusal.{Refusal}
use Prim.Native.Nat.{ℕ}
use native.Mathlib.Omega.{arith}
use mathlib.Core.Path.{◌≡◌, refl, sym, subst}
use mathlib.Core.Bool.{Bool, true, false, ◌&&◌}
use mathlib.Core.List.{List}
use lib.ListN.{length}
use lib.Dec.{leb, ltb}
use borrow.Author.Tests.{ltb-false}
use Rattle.runs.specs.Runs.{pick}
use Rattle.refusals.specs.declared.Refusal.TheVariants.{SheetTooLong, OutputTooShort}
use Rattle.sheet.specs.Limits.{sheet_limit}
use Rattle.rescued.specs.Stretches.{kept_of, report_of}
use Rattle.rescued.specs.Answers.{rescued_of}
use Rattle.rescued.proofs.Promises.{kept-size, report_size}
use Rattle.exports.specs.Rescue.{Fitting}

pub rescue_fits : (s : List ℕ) (room space : ℕ) (r : Result Sizes Refusal) → r ≡ rescued_of s room space → Fitting r
unfolding rescued_of
rescue_fits s room space r e = subst Fitting (sym e) (by (ltb sheet_limit (length s)) refl (leb (length (kept_of s)) room && leb (length (report_of s)) space))
  where
    by : (a : Bool) → ltb sheet_limit (length s) ≡ a → (b : Bool)
        → Fitting (pick a (Err SheetTooLong) (pick b (Ok (record { kept = length (kept_of s); report = length (report_of s) })) (Err OutputTooShort)))
    by true p b = tt
    by false p true = let l = ltb-false sheet_limit (length s) p in (omega (arith, kept-size s), omega (arith, report_size s l))
    by false p false = tt
