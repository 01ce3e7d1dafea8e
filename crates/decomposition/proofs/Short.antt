-- An accepted word is short. The proofs of the entries cite it. Assumes nothing.
use Rattle.std.specs.Prelude.{Err, Ok}
use mathlib.Core.Path.{◌≡◌, refl}
use mathlib.Core.Bool.{Bool, true, false, not}
use mathlib.Core.List.{List}
use Prim.Native.Nat.{ℕ, ◌≤◌}
use native.Mathlib.Omega.{arith}
use lib.ListN.{length}
use lib.Dec.{ltb}
use borrow.Author.Tests.{ltb-false}
use Rattle.runs.specs.Runs.{pick}
use Rattle.text.specs.Utf8.{is_utf8}
use Rattle.text.specs.Names.{holds_forbidden}
use Rattle.text.specs.Word.{word_limit, word_check}
use Rattle.text.specs.declared.word.WordFault.TheVariants as words

pub word-short : (w : List ℕ) → word_check w ≡ Ok (tt {0}) → length w ≤ word_limit
unfolding word_check
word-short w e = go (ltb word_limit (length w)) refl e
  where
    go : (b : Bool) → ltb word_limit (length w) ≡ b
        → pick b (Err words.TooLong) (pick (not (is_utf8 w)) (Err words.NotUtf8) (pick (holds_forbidden w) (Err words.Forbidden) (Ok (tt {0})))) ≡ Ok (tt {0})
        → length w ≤ word_limit
    go true t q = let z : ◌≡◌ {A = ℕ} 0 1 = cc in absurd (omega arith)
    go false t q = ltb-false word_limit (length w) t
