-- `kosha::known_stem` meets its contract: nothing is known under the suffixes passed. Assumes nothing.
use Rattle.std.proofs.Common.{◌≡◌, drop}
use Rattle.tables.specs.Rows.{strip_suffixes}
use Rattle.sheet.specs.Replies.{reply}
use Rattle.origin.specs.Decisions.{first_known, known_under, known_stem}
use Rattle.origin.proofs.kosha.known_stem.Given as goal

abbrev pub invariant-loop-suffix : goal.invariant-loop-suffix
invariant-loop-suffix l = known_stem (reply l.sheet.bytes.now) l.word ≡ first_known (known_under (reply l.sheet.bytes.now) l.word) (drop l.suffix-index strip_suffixes)
