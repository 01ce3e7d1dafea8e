-- What is put of each element of a list. Assumes nothing.
use Rattle.std.specs.Prelude.{ℕ, ◌≡◌, List}
use denote.Ref.{MutBor}
use Rattle.writing.specs.Writers.{with_text}
use Rattle.writing.specs.declared.Writer.{Writer}

-- what is put of an element is its text
abbrev pub Puts : {T : Type 0} → (MutBor Writer → T → Unit {0} → MutBor Writer → Type 0) → (T → List ℕ) → Type 0
Puts {T} put text = (w : MutBor Writer) (x : T) (v : MutBor Writer) → put w x tt v → v.now ≡ with_text w.now (text x)
