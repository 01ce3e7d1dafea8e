-- `sheet::name::read_name` meets its contract: what is read of the name's bytes, and those to come, are all of them. Assumes nothing.
use Prim.Native.Nat.{◌+◌, ◌≤◌}
use mathlib.Core.Path.{◌≡◌}
use mathlib.Core.List.{[]}
use lib.ListN.{length, drop}
use Rattle.text.specs.Utf8.{owes, run}
use Rattle.text.specs.Owes.{owed_of}
use Rattle.text.specs.Names.{name_run}
use Rattle.sheet.specs.Forms.{front}
use Rattle.sheet.proofs.name.read_name.Given as goal

abbrev pub invariant-loop-i : goal.invariant-loop-i
invariant-loop-i l = (l.i ≤ length l.t)
    × (l.i + name_run (drop l.i l.t) ≡ name_run l.t)
    × (run (owes []) (front l.t) ≡ run (owed_of l.state) (front (drop l.i l.t)))
