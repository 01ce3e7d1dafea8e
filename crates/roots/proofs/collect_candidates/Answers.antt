-- `collect_candidates` meets its contract: what is held are the candidates. Assumes nothing.
use mathlib.Core.Path.{◌≡◌}
use native.Mathlib.Omega.{arith}
use Prim.Native.Nat.{◌≤◌}
use lib.ListN.{length}
use Rattle.text.specs.Characters.{chars}
use Rattle.lookup.specs.Lexicons.{replies}
use Rattle.decomposition.specs.Parts.{decomposed_of}
use Rattle.decomposition.proofs.Few.{few-suffixes}
use Rattle.text.proofs.Scan.{chars_most}
use Rattle.roots.proofs.Bounded.{collected_is}
use Rattle.roots.proofs.collect_candidates.Goals as goal

pub overflow_cast-asked : goal.overflow_cast-asked
overflow_cast-asked c =
    let n : c.count.result ≡ chars c.args.word.now = c.count.ensures in
    let m = chars_most c.args.word.now in
    let h : length c.args.word.now ≤ 192 = c.requires in
    omega arith

pub with_word-requires : goal.with_word-requires
with_word-requires c =
    let ask = replies c.args.sheet.now in
    let w = c.args.word.now in
    let p : c.decomposed.result ≡ decomposed_of ask w = c.decomposed.ensures in
    rw p (few-suffixes ask w)

pub returns : goal.returns
returns c =
    collected_is (replies c.args.sheet.now) c.args.word.now _ _ _ _ c.new-list.ensures c.decomposed.ensures c.with_word.ensures c.with_prefix.ensures
