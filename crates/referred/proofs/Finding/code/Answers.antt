-- `Finding::code` meets its contract, fault by fault. Assumes nothing.
use mathlib.Core.Path.{sym, ap}
use Rattle.referred.specs.Codes.{code_for}
use Rattle.referred.proofs.Finding.code.Goals as goal

pub returns-in-Missing : goal.returns-in-Missing
returns-in-Missing c = rw c.from-place.ensures (ap (code_for c.args.self.line) (sym c.in-Missing.is))

pub returns-in-NotVerb : goal.returns-in-NotVerb
returns-in-NotVerb c = rw c.from-place.ensures (ap (code_for c.args.self.line) (sym c.in-NotVerb.is))

pub returns-in-Unused : goal.returns-in-Unused
returns-in-Unused c = rw c.from-place.ensures (ap (code_for c.args.self.line) (sym c.in-Unused.is))
