-- What each state of the code's reader owes. Assumes nothing.
use Rattle.std.specs.Prelude.{[], ◌∷◌}
use Rattle.text.specs.Utf8.{from_to, tail, Owed, owes, misfit}
use Rattle.text.specs.declared.utf8.State.{State}
use Rattle.text.specs.declared.utf8.State.TheVariants.{Nothing, One, Two, Three, TwoFromA0, TwoTo9F, ThreeFrom90, ThreeTo8F, Misfit}

abbrev pub owed_of : State → Owed
owed_of Nothing = owes []
owed_of One = owes (tail ∷ [])
owed_of Two = owes (tail ∷ tail ∷ [])
owed_of Three = owes (tail ∷ tail ∷ tail ∷ [])
owed_of TwoFromA0 = owes (from_to 0xA0 0xBF ∷ tail ∷ [])
owed_of TwoTo9F = owes (from_to 0x80 0x9F ∷ tail ∷ [])
owed_of ThreeFrom90 = owes (from_to 0x90 0xBF ∷ tail ∷ tail ∷ [])
owed_of ThreeTo8F = owes (from_to 0x80 0x8F ∷ tail ∷ tail ∷ [])
owed_of Misfit = misfit
