-- `faults::line_fault` meets its contract, letter by letter. Assumes nothing.
use native.Mathlib.Omega.{arith}
use Rattle.referred.proofs.Refers.{link-fault, kind-fault, no-fault}
use Rattle.referred.proofs.faults.line_fault.Goals as goal

pub returns-in-108 : goal.returns-in-108
returns-in-108 c = link-fault _ c.args.line.now c.requires _ c.letter.ensures c.in-108.is _ c.value.ensures _ c.verb_fault.ensures

pub returns-then-names_any : goal.returns-then-names_any
returns-then-names_any c = kind-fault _ c.args.line.now c.requires _ c.letter.ensures c.in-107.is _ _ c.names_any.ensures c.if-names_any.true

pub returns-else-names_any : goal.returns-else-names_any
returns-else-names_any c = kind-fault _ c.args.line.now c.requires _ c.letter.ensures c.in-107.is _ _ c.names_any.ensures c.if-names_any.false

pub returns-in_default : goal.returns-in_default
returns-in_default c = no-fault _ c.args.line.now c.requires _ c.letter.ensures (λ z. omega arith) (λ z. omega arith)
