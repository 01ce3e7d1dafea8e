-- What is printed for an input is printed for its front up to one byte past the limit: a longer one is refused. Assumes nothing.
use Rattle.std.proofs.Common.{◌≡◌, ℕ, Bool, true, false, List, length, take}
use Rattle.std.proofs.lemmas.List.{take_all, length-take-le}
use native.Mathlib.Omega.{arith}
use mathlib.Core.Path.{sym, ap, refl, ◌∙◌}
use lib.Dec.{ltb}
use borrow.Author.Tests.{ltb-true, ltb-false}
use Rattle.listing.specs.Printed.{input_limit, printed}
use Rattle.listing.proofs.Answered.{printed_long}

pub printed_front : (s : List ℕ) → printed (take 65537 s) ≡ printed s
printed_front s = go (ltb input_limit (length s)) refl
  where
    go : (b : Bool) → ltb input_limit (length s) ≡ b → printed (take 65537 s) ≡ printed s
    go true e =
        let h = ltb-true input_limit (length s) e in
        let n = length-take-le 65537 s (omega arith) in
        sym (printed_long (take 65537 s) (omega arith)) ∙ printed_long s h
    go false e = let h = ltb-false _ _ e in ap printed (take_all 65537 s (omega arith))
