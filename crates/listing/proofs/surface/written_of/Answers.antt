-- `surface::written_of` meets its contract: the text of the row, if there is one, or what follows its first character. Assumes nothing.
use Prim.Native.Nat.{ℕ, ◌-◌}
use native.Mathlib.Omega.{arith}
use mathlib.Core.Path.{◌≡◌, ap, ◌∙◌}
use mathlib.Core.Bool.{true, false}
use mathlib.Core.List.{List, []}
use lib.ListN.{length, take, drop, get_or, length-drop}
use lib.Seq.{take_all}
use borrow.Author.Tests.{not-true, not-false}
use Rattle.tables.specs.Tables.{affixes}
use Rattle.ranking.specs.declared.Segment.{Segment}
use Rattle.strips.specs.Suffix.{first_length}
use Rattle.paths.specs.Recomposed.{written_of}
use Rattle.listing.proofs.surface.written_of.Goals as goal

written-plain : (s : Segment) (t : List ℕ) → s.shared ≡ false → t ≡ get_or affixes s.label [] → t ≡ written_of s
written-plain s t b e = rw b e

written-shared : (s : Segment) (t : List ℕ) (from : ℕ) → s.shared ≡ true → t ≡ get_or affixes s.label [] → from ≡ first_length t
    → take (length t - from) (drop from t) ≡ written_of s
written-shared s t from b e f =
    take_all (length t - from) (drop from t) (omega (arith, length-drop from t)) ∙ ap (λ (k : ℕ). drop k t) f ∙ ap (λ (x : List ℕ). drop (first_length x) x) e ∙ rw b

pub returns-then-not-s : goal.returns-then-not-s
returns-then-not-s c = written-plain c.args.s c.affix-text.result.now (not-true c.args.s.shared c.if-not-s.true) (c.affix-text.ensures ∙ ap (λ (k : ℕ). get_or affixes k []) c.from.ensures)

pub returns : goal.returns
returns c =
    written-shared c.args.s c.affix-text.result.now c.first_char_len.result (not-false c.args.s.shared c.if-not-s.false) (c.affix-text.ensures ∙ ap (λ (k : ℕ). get_or affixes k []) c.from.ensures) c.first_char_len.ensures.0
