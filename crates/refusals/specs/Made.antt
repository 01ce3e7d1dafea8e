-- What is made of each row of a list. Assumes nothing.
use Rattle.std.specs.Prelude.{◌≡◌}

-- what is made of x is `of x`
abbrev pub Makes : {S T : Type 0} → (S → T → Type 0) → (S → T) → Type 0
Makes {S} {T} made of = (x : S) (y : T) → made x y → y ≡ of x
