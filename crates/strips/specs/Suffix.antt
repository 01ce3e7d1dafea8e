-- The remainders of a piece under a suffix (document 01, "Strips, readings, rank"), and how the code says them. Readings, decompose,
-- candidates and origin all strip by these. Assumes nothing.
use Rattle.std.specs.Prelude.{ℕ, suc, ◌+◌, ◌-◌, Bool, true, false, not, ◌&&◌, List, [], ◌∷◌, ◌++◌, map, length, take, eqb, ltb, Option, Some, None}
use Rattle.runs.specs.Runs.{pick, ends_in}
use Rattle.text.specs.Characters.{chars, opens}
use Rattle.tables.specs.Tables.{is_ii}
use Rattle.strips.specs.declared.suffix.Rests.{Rests}

-- how many bytes stand before the next that begins a character, or before the end
abbrev pub goes_on : List ℕ → ℕ
goes_on [] = 0
goes_on (b ∷ s) = pick (eqb (opens b) 1) 0 (suc (goes_on s))

-- the bytes of the first character: the first byte and those that go on with it
abbrev pub first_length : List ℕ → ℕ
first_length [] = 0
first_length (b ∷ s) = suc (goes_on s)

abbrev pub first_character : List ℕ → List ℕ
first_character t = take (first_length t) t

-- the piece ends in the suffix and is longer
unfoldable pub sheds : List ℕ → List ℕ → Bool
sheds piece suffix = ltb (length suffix) (length piece) && ends_in suffix piece

-- the suffix has more than one character
unfoldable pub is_long : List ℕ → Bool
is_long suffix = ltb 1 (chars suffix)

-- the piece without the suffix
abbrev pub without : List ℕ → List ℕ → List ℕ
without piece suffix = take (length piece - length suffix) piece

-- the plain remainder, one or none: the piece without the suffix
unfoldable pub plain : List ℕ → List ℕ → List (List ℕ)
plain piece suffix = pick (sheds piece suffix) (without piece suffix ∷ []) []

-- the shared remainder, one or none: the same with the suffix's first character kept, if the suffix has more than one
unfoldable pub shared : List ℕ → List ℕ → List (List ℕ)
shared piece suffix = pick (sheds piece suffix && is_long suffix) ((without piece suffix ++ first_character suffix) ∷ []) []

-- the remainders: the plain one, then the shared one
unfoldable pub remainders : List ℕ → List ℕ → List (List ℕ)
remainders piece suffix = plain piece suffix ++ shared piece suffix

-- a remainder with its mark: whether the suffix's first character is shared
pub record Marked : Type 0 where
  pub left : List ℕ
  pub is_shared : Bool

-- the marked remainders, as the single strip says them; without their marks they are the remainders (proofs/Remainders.marks_off)
unfoldable pub marked : List ℕ → List ℕ → List Marked
marked piece suffix =
    map (λ left. record { left = left; is_shared = false }) (plain piece suffix)
    ++ map (λ left. record { left = left; is_shared = true }) (shared piece suffix)

-- each is a front part of the piece, so that its length says it
abbrev pub plain_length : List ℕ → List ℕ → ℕ
plain_length piece suffix = length piece - length suffix

abbrev pub shared_length : List ℕ → List ℕ → ℕ
shared_length piece suffix = plain_length piece suffix + first_length suffix

-- the remainders as the code says them: the length of each, where there is one
unfoldable pub rests_of : List ℕ → List ℕ → Rests
rests_of piece suffix = record {
  plain = pick (sheds piece suffix) (Some (plain_length piece suffix)) None;
  shared = pick (sheds piece suffix && is_long suffix) (Some (shared_length piece suffix)) None;
}

-- the part of the piece that such a length says, one or none
abbrev pub front : List ℕ → Option ℕ → List (List ℕ)
front piece None = []
front piece (Some n) = take n piece ∷ []

abbrev pub fronts : List ℕ → Rests → List (List ℕ)
fronts piece r = front piece r.plain ++ front piece r.shared

-- the same, each with its mark
abbrev pub marked_front : List ℕ → Bool → Option ℕ → List Marked
marked_front piece is_shared None = []
marked_front piece is_shared (Some n) = record { left = take n piece; is_shared = is_shared } ∷ []

abbrev pub marked_fronts : List ℕ → Rests → List Marked
marked_fronts piece r = marked_front piece false r.plain ++ marked_front piece true r.shared

-- the extra rule for ई and ी: a piece whose own `w` line has p (a pronoun) gives none unless that line has e (it is spelled out)
unfoldable pub keeps_pronoun : Bool → Bool → List ℕ → Bool
keeps_pronoun pronoun spelled suffix = pronoun && (not spelled && is_ii suffix)
