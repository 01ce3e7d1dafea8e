-- What an accepted word and sheet give the walk. The proofs of the entries cite these. Assumes nothing.
use Rattle.std.specs.Prelude.{Err, Ok}
use Prim.Native.Nat.{ℕ, ◌≤◌}
use native.Mathlib.Omega.{arith}
use mathlib.Core.Path.{◌≡◌, refl}
use mathlib.Core.Bool.{Bool, true, false, not}
use mathlib.Core.List.{List}
use lib.ListN.{length}
use lib.Dec.{ltb}
use borrow.Author.Tests.{ltb-false}
use Rattle.runs.specs.Runs.{pick}
use Rattle.lookup.specs.declared.asked.Asked.{Asked}
use Rattle.text.proofs.Scan.{chars_most}
use Rattle.text.specs.Utf8.{is_utf8}
use Rattle.text.specs.Names.{holds_forbidden}
use Rattle.text.specs.Word.{word_limit, word_check}
use Rattle.text.specs.declared.word.WordFault.TheVariants.{TooLong, NotUtf8, Forbidden}

-- an accepted word is short, and UTF-8
pub word-parts : (w : List ℕ) → word_check w ≡ Ok tt → (length w ≤ 192) × (is_utf8 w ≡ true)
unfolding word_check
word-parts w = by (ltb word_limit (length w)) (is_utf8 w) (holds_forbidden w) refl refl
  where
    by : (a b c : Bool) → ltb word_limit (length w) ≡ a → is_utf8 w ≡ b → pick a (Err TooLong) (pick (not b) (Err NotUtf8) (pick c (Err Forbidden) (Ok (tt {0})))) ≡ Ok (tt {0}) → (length w ≤ 192) × (is_utf8 w ≡ true)
    by true b c p q e = let z : ◌≡◌ {A = ℕ} 0 1 = cc in absurd (omega arith)
    by false false c p q e = let z : ◌≡◌ {A = ℕ} 0 1 = cc in absurd (omega arith)
    by false true c p q e = (ltb-false word_limit (length w) p, q)

-- a word that is asked has at most 192 characters
pub few_characters : (a : Asked) → a.surface ≤ 192
few_characters a = omega (arith, a.counted, chars_most a.word.now, a.short)
