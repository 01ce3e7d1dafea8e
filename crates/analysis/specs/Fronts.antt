-- Which pieces a prefix form can begin, by the third byte alone: every form begins with a character of three bytes. Assumes nothing.
use Rattle.std.specs.Prelude.{ℕ, Bool, false, ◌||◌, List, length, get_or, eqb, ltb}
use Rattle.runs.specs.Runs.{pick}

-- the third byte of some form: those of अ आ उ द न प व स
unfoldable pub opens_form : ℕ → Bool
opens_form b = eqb b 0x85 || eqb b 0x86 || eqb b 0x89 || eqb b 0xA6 || eqb b 0xA8 || eqb b 0xAA || eqb b 0xB5 || eqb b 0xB8

-- by its third byte a piece can begin with a form; proofs/Opened shows that no other piece does
unfoldable pub may_begin : List ℕ → Bool
may_begin piece = pick (ltb (length piece) 3) false (opens_form (get_or piece 2 0))
