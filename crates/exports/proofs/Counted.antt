-- How many tokens a text has at most: their count fits its bits of a code. The proof of `yunthirel_tokens` cites it. Assumes nothing.
use Rattle.std.specs.Prelude.{Err, Ok, Result}
use Rattle.refusals.specs.declared.Refusal.{Refusal}
use Prim.Native.Nat.{ℕ}
use native.Mathlib.Omega.{arith}
use mathlib.Core.Path.{◌≡◌, sym, subst}
use mathlib.Core.Logic.{◌⊎◌, inl, inr}
use mathlib.Core.List.{List}
use Rattle.sheet.specs.Inputs.{Placed}
use Rattle.refusals.specs.declared.Refusal.TheVariants.{TextTooLong, TextNotUtf8, ListTooShort}
use Rattle.tokenizer.specs.Answers.{tokenized}
use Rattle.tokenizer.proofs.Promises.{listed-few, only_three}
use Rattle.exports.specs.Codes.{Small}

pub tokens_small : (s : List ℕ) (room : ℕ) (w : Result ℕ Refusal) → w ≡ tokenized s room → Small w
tokens_small s room (Ok n) e = let k = listed-few s room n (sym e) in omega arith
tokens_small s room (Err r) e = one_of (only_three s room r (sym e))
  where
    one_of : (r ≡ TextTooLong) ⊎ ((r ≡ TextNotUtf8) ⊎ (r ≡ ListTooShort)) → Placed r
    one_of (inl q) = subst Placed (sym q) tt
    one_of (inr (inl q)) = subst Placed (sym q) tt
    one_of (inr (inr q)) = subst Placed (sym q) tt
