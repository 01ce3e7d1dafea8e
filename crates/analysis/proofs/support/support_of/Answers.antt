-- `analysis::support::support_of` meets its contract, part by part. Assumes nothing.
use Prim.Native.Nat.{ℕ, ◌+◌, ◌-◌, ◌≤◌}
use native.Mathlib.Omega.{arith}
use borrow.Author.Tests.{leb-true}
use lib.Dec.{leb}
use mathlib.Core.Path.{◌≡◌, sym, ap, ◌∙◌}
use mathlib.Core.Bool.{not}
use mathlib.Core.List.{List, [], ◌++◌, append-nil}
use Rattle.sheet.specs.Replies.{Reply, reply, letters_told, letters_for}
use Rattle.sheet.specs.declared.letters.Letters.{Letters}
use Rattle.runs.proofs.Begins.{and_left, and_right}
use Rattle.lookup.proofs.Begun.{none_begun, alone_begun}
use Rattle.analysis.proofs.Supported.{same_support}
use Rattle.analysis.proofs.Siblings.{none_known, alone_known, has-reply}
use Rattle.analysis.proofs.support.support_of.Goals as goal
use Rattle.analysis.proofs.support.support_of.Goals.{After-letters_of-letters, Then-range}

-- where no name begins with the root, nothing that begins so has a reply
unasked : (c : Then-range) → let a = c.args in
    (q : List ℕ) → reply a.sheet.now.bytes.now 0x77 (a.root.now ++ q) ≡ Reply.unknown
unasked c q =
    none_begun c.args.sheet.now.bytes.now 0x77 c.args.root.now c.args.sheet.now.starts.now c.args.sheet.now.indexed c.range_of-range.result c.range_of-range.ensures q c.if-range.true

pub returns-then-range : goal.returns-then-range
returns-then-range c =
    let r = c.args.root.now in
    let e : reply c.args.sheet.now.bytes.now 0x77 r ≡ Reply.unknown = ap (reply c.args.sheet.now.bytes.now 0x77) (sym (append-nil r)) ∙ unasked (goal.at.returns-then-range c).Then-range [] in
    same_support (ap (λ (x : Reply). (letters_told x).word) (sym e)) (ap (λ (x : Reply). (letters_told x).head) (sym e)) (sym (none_known (reply c.args.sheet.now.bytes.now) r _ (unasked (goal.at.returns-then-range c).Then-range))) c.requires

-- the letters are those of the root
own : (c : After-letters_of-letters) → let a = c.args in
    c.letters_of-letters.result ≡ letters_told (reply a.sheet.now.bytes.now 0x77 (a.root.now ++ []))
unfolding letters_for
own c = c.letters_of-letters.ensures

pub returns-else-not-is_alone : goal.returns-else-not-is_alone
returns-else-not-is_alone c =
    let r = c.args.root.now in
    let alone = sym c.is_alone.ensures ∙ c.if-not-is_alone.false in
    let few : c.range_of-range.result.hi ≤ c.range_of-range.result.lo + 1 = omega (arith, leb-true (c.range_of-range.result.hi - c.range_of-range.result.lo) 1 (and_left _ _ alone)) in
    let some = has-reply _ _ (own (goal.at.returns-else-not-is_alone c).After-letters_of-letters) (and_right (leb (c.range_of-range.result.hi - c.range_of-range.result.lo) 1) _ alone) in
    let e = own (goal.at.returns-else-not-is_alone c).After-letters_of-letters ∙ ap (λ (n : List ℕ). letters_told (reply c.args.sheet.now.bytes.now 0x77 n)) (append-nil r) in
    same_support (ap (λ (x : Letters). x.word) e) (ap (λ (x : Letters). x.head) e)
    (ap not c.if-not-is_alone.false ∙ sym (alone_known (reply c.args.sheet.now.bytes.now) r
    (λ q n. alone_begun c.args.sheet.now.bytes.now 0x77 r c.args.sheet.now.starts.now c.args.sheet.now.indexed c.range_of-range.result c.range_of-range.ensures few [] q (λ z. omega (arith, n, z)) some)))
    c.requires

pub returns-then-not-is_alone : goal.returns-then-not-is_alone
unfolding letters_for
returns-then-not-is_alone c =
    let e = c.letters_of-letters.ensures ∙ ap (letters_for c.args.sheet.now.bytes.now) (append-nil c.args.root.now) in
    same_support (ap (λ (x : Letters). x.word) e) (ap (λ (x : Letters). x.head) e) c.has_sibling-sibling.ensures c.requires

pub invariant_of-names : goal.invariant_of-names
invariant_of-names c = record { begun = c.range_of-range.ensures }
