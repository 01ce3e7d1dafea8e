-- The marks of a word's origin (document 01, "origin.rs"): texts that it contains, and texts in which it ends. A mark is its bytes;
-- proofs/Contained.antt shows that in UTF-8 text, as every accepted word is, such bytes are whole characters. Assumes nothing.
use Rattle.std.specs.Prelude.{ℕ, Bool, false, ◌||◌, List, [], ◌∷◌, ◌++◌, map, drop}
use Rattle.runs.specs.Runs.{pick, begins_with, ends_in}
use Rattle.strips.specs.Suffix.{first_length}
use Rattle.tables.specs.declared.origins.Origin.{Origin}
use Rattle.tables.specs.declared.origins.Origin.TheVariants.{Tatsam, Tadbhav, Deshaj, Aagantuk}

-- w contains t: some tail of w begins with t
abbrev pub contains : List ℕ → List ℕ → Bool
contains t [] = begins_with t []
contains t (b ∷ w) = begins_with t (b ∷ w) || contains t w

-- the test passes for one of the texts
abbrev pub some : (List ℕ → Bool) → List (List ℕ) → Bool
some f [] = false
some f (t ∷ ts) = f t || some f ts

unfoldable pub contains_one : List (List ℕ) → List ℕ → Bool
contains_one ts w = some (λ t. contains t w) ts

abbrev pub begins_one : List (List ℕ) → List ℕ → Bool
begins_one ts w = some (λ t. begins_with t w) ts

unfoldable pub ends_in_one : List (List ℕ) → List ℕ → Bool
ends_in_one ts w = some (λ t. ends_in t w) ts

-- Aagantuk: U+0958 to U+095F anywhere,
unfoldable pub aagantuk_marks : List (List ℕ)
aagantuk_marks =
    (0xE0 ∷ 0xA5 ∷ 0x98 ∷ []) ∷  -- U+0958
    (0xE0 ∷ 0xA5 ∷ 0x99 ∷ []) ∷  -- U+0959
    (0xE0 ∷ 0xA5 ∷ 0x9A ∷ []) ∷  -- U+095A
    (0xE0 ∷ 0xA5 ∷ 0x9B ∷ []) ∷  -- U+095B
    (0xE0 ∷ 0xA5 ∷ 0x9C ∷ []) ∷  -- U+095C
    (0xE0 ∷ 0xA5 ∷ 0x9D ∷ []) ∷  -- U+095D
    (0xE0 ∷ 0xA5 ∷ 0x9E ∷ []) ∷  -- U+095E
    (0xE0 ∷ 0xA5 ∷ 0x9F ∷ []) ∷  -- U+095F
    []

-- or U+093C after the first character
abbrev pub nukta : List ℕ
nukta = 0xE0 ∷ 0xA4 ∷ 0xBC ∷ []

-- what follows the first character of w
abbrev pub after_first : List ℕ → List ℕ
after_first w = drop (first_length w) w

unfoldable pub has_aagantuk_markers : List ℕ → Bool
has_aagantuk_markers w = contains_one aagantuk_marks w || contains nukta (after_first w)

-- Tatsam: any of these
unfoldable pub tatsam_marks : List (List ℕ)
tatsam_marks =
    (0xE0 ∷ 0xA4 ∷ 0x8B ∷ []) ∷  -- ऋ
    (0xE0 ∷ 0xA5 ∷ 0x83 ∷ []) ∷  -- ृ
    (0xE0 ∷ 0xA4 ∷ 0xB7 ∷ []) ∷  -- ष
    (0xE0 ∷ 0xA4 ∷ 0x83 ∷ []) ∷  -- ः
    (0xE0 ∷ 0xA4 ∷ 0x95 ∷ 0xE0 ∷ 0xA5 ∷ 0x8D ∷ 0xE0 ∷ 0xA4 ∷ 0xB7 ∷ []) ∷  -- क्ष
    (0xE0 ∷ 0xA4 ∷ 0x9C ∷ 0xE0 ∷ 0xA5 ∷ 0x8D ∷ 0xE0 ∷ 0xA4 ∷ 0x9E ∷ []) ∷  -- ज्ञ
    (0xE0 ∷ 0xA4 ∷ 0x95 ∷ 0xE0 ∷ 0xA5 ∷ 0x8D ∷ 0xE0 ∷ 0xA4 ∷ 0xA4 ∷ []) ∷  -- क्त
    (0xE0 ∷ 0xA4 ∷ 0xA4 ∷ 0xE0 ∷ 0xA5 ∷ 0x8D ∷ 0xE0 ∷ 0xA4 ∷ 0xAE ∷ []) ∷  -- त्म
    (0xE0 ∷ 0xA4 ∷ 0xA4 ∷ 0xE0 ∷ 0xA5 ∷ 0x8D ∷ 0xE0 ∷ 0xA4 ∷ 0xB0 ∷ []) ∷  -- त्र
    (0xE0 ∷ 0xA4 ∷ 0xA4 ∷ 0xE0 ∷ 0xA5 ∷ 0x8D ∷ 0xE0 ∷ 0xA4 ∷ 0xA4 ∷ []) ∷  -- त्त
    (0xE0 ∷ 0xA4 ∷ 0xA6 ∷ 0xE0 ∷ 0xA5 ∷ 0x8D ∷ 0xE0 ∷ 0xA4 ∷ 0xA7 ∷ []) ∷  -- द्ध
    (0xE0 ∷ 0xA4 ∷ 0xA6 ∷ 0xE0 ∷ 0xA5 ∷ 0x8D ∷ 0xE0 ∷ 0xA4 ∷ 0xAF ∷ []) ∷  -- द्य
    (0xE0 ∷ 0xA4 ∷ 0xA6 ∷ 0xE0 ∷ 0xA5 ∷ 0x8D ∷ 0xE0 ∷ 0xA4 ∷ 0xB5 ∷ []) ∷  -- द्व
    []

unfoldable pub has_tatsam_markers : List ℕ → Bool
has_tatsam_markers w = contains_one tatsam_marks w

-- Tadbhav: an end in नु, ने or को,
abbrev pub syllables : List (List ℕ)
syllables =
    (0xE0 ∷ 0xA4 ∷ 0xA8 ∷ 0xE0 ∷ 0xA5 ∷ 0x81 ∷ []) ∷  -- नु
    (0xE0 ∷ 0xA4 ∷ 0xA8 ∷ 0xE0 ∷ 0xA5 ∷ 0x87 ∷ []) ∷  -- ने
    (0xE0 ∷ 0xA4 ∷ 0x95 ∷ 0xE0 ∷ 0xA5 ∷ 0x8B ∷ []) ∷  -- को
    []

-- or in ो or ा right after ठ, ड or ढ
abbrev pub sign_o : List ℕ
sign_o = 0xE0 ∷ 0xA5 ∷ 0x8B ∷ []

abbrev pub sign_aa : List ℕ
sign_aa = 0xE0 ∷ 0xA4 ∷ 0xBE ∷ []

abbrev pub retroflexes : List (List ℕ)
retroflexes =
    (0xE0 ∷ 0xA4 ∷ 0xA0 ∷ []) ∷  -- ठ
    (0xE0 ∷ 0xA4 ∷ 0xA1 ∷ []) ∷  -- ड
    (0xE0 ∷ 0xA4 ∷ 0xA2 ∷ []) ∷  -- ढ
    []

-- the sign right after each of the texts
abbrev pub right_after : List (List ℕ) → List ℕ → List (List ℕ)
right_after ts sign = map (λ (t : List ℕ). t ++ sign) ts

unfoldable pub tadbhav_ends : List (List ℕ)
tadbhav_ends = syllables ++ (right_after retroflexes sign_o ++ right_after retroflexes sign_aa)

unfoldable pub has_tadbhav_markers : List ℕ → Bool
has_tadbhav_markers w = ends_in_one tadbhav_ends w

abbrev pub by_end : List ℕ → Origin
by_end w = pick (has_tadbhav_markers w) Tadbhav Deshaj

-- the origin that the marks of w show, Deshaj where there are none
unfoldable pub heuristic_of : List ℕ → Origin
heuristic_of w =
    pick (has_aagantuk_markers w) Aagantuk
    (pick (has_tatsam_markers w) Tatsam
    (by_end w))
