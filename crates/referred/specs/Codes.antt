-- Findings as numbers of 32 bits: what is wrong stands in the lowest byte (1 missing, 2 notverb, 3 unused), above it the first byte of the
-- line. Assumes nothing.
use Rattle.std.specs.Prelude.{ℕ, ◌+◌, ◌*◌, ◌%◌, List, map, eqb}
use Rattle.runs.specs.Runs.{pick}
use Rattle.referred.specs.declared.Fault.{Fault}
use Rattle.referred.specs.declared.Fault.TheVariants.{Missing, NotVerb, Unused}
use Rattle.referred.specs.declared.Finding.{Finding}

abbrev pub code_for : ℕ → Fault → ℕ
code_for at Missing = at * 256 + 1
code_for at NotVerb = at * 256 + 2
code_for at Unused = at * 256 + 3

abbrev pub code_of : Finding → ℕ
code_of f = code_for f.line f.fault

abbrev pub codes_of : List Finding → List ℕ
codes_of fs = map code_of fs

-- the fault that a code says
unfoldable pub fault_in : ℕ → Fault
fault_in c = pick (eqb (c % 256) 1) Missing (pick (eqb (c % 256) 2) NotVerb Unused)
