-- Progressive forms (document 01, progressive.rs), said of replies. Assumes nothing.
use Rattle.std.specs.Prelude.{ℕ, ◌-◌, Bool, true, false, ◌&&◌, ◌||◌, List, [], ◌∷◌, ◌++◌, length, take, drop, eqb}
use Rattle.runs.specs.Runs.{pick, begins_with, ends_in}
use Rattle.sheet.specs.Forms.{sign_i, letter_i, syllable_nu}
use Rattle.sheet.specs.Replies.{Reply, unknown, told, Ask, letters_by}

-- रहेको, रहेकी and रहेका, one of which ends the word: रहेक and one more sign
abbrev pub rahek : List ℕ
rahek = 0xE0 ∷ 0xA4 ∷ 0xB0 ∷ 0xE0 ∷ 0xA4 ∷ 0xB9 ∷ 0xE0 ∷ 0xA5 ∷ 0x87 ∷ 0xE0 ∷ 0xA4 ∷ 0x95 ∷ []

abbrev pub raheko : List ℕ
raheko = rahek ++ (0xE0 ∷ 0xA5 ∷ 0x8B ∷ [])

abbrev pub raheki : List ℕ
raheki = rahek ++ (0xE0 ∷ 0xA5 ∷ 0x80 ∷ [])

abbrev pub raheka : List ℕ
raheka = rahek ++ (0xE0 ∷ 0xA4 ∷ 0xBE ∷ [])

-- रहनु, which must be a verb
abbrev pub rahanu : List ℕ
rahanu = 0xE0 ∷ 0xA4 ∷ 0xB0 ∷ 0xE0 ∷ 0xA4 ∷ 0xB9 ∷ 0xE0 ∷ 0xA4 ∷ 0xA8 ∷ 0xE0 ∷ 0xA5 ∷ 0x81 ∷ []

-- ्, ा, आ, उ and न
abbrev pub virama : List ℕ
virama = 0xE0 ∷ 0xA5 ∷ 0x8D ∷ []

abbrev pub sign_aa : List ℕ
sign_aa = 0xE0 ∷ 0xA4 ∷ 0xBE ∷ []

abbrev pub letter_aa : List ℕ
letter_aa = 0xE0 ∷ 0xA4 ∷ 0x86 ∷ []

abbrev pub letter_u : List ℕ
letter_u = 0xE0 ∷ 0xA4 ∷ 0x89 ∷ []

abbrev pub letter_na : List ℕ
letter_na = 0xE0 ∷ 0xA4 ∷ 0xA8 ∷ []

-- a name is a verb
abbrev pub is_verb : Ask → List ℕ → Bool
is_verb ask name = (letters_by ask name).verb

-- a lemma, or none
pub data Lemma : Type 0 where
  none : Lemma
  lemma : List ℕ → Lemma

-- the name where it is a verb, else `rest`
abbrev pub verb_or : Ask → List ℕ → Lemma → Lemma
verb_or ask name rest = pick (is_verb ask name) (lemma name) rest

-- the first verb among stem+नु, stem+्नु, stem+उनु (only where the stem ends in ा or आ) and linked form+नु
unfoldable pub regular : Ask → List ℕ → List ℕ → Lemma
regular ask linked stem =
    verb_or ask (stem ++ syllable_nu)
    (verb_or ask (stem ++ (virama ++ syllable_nu))
    (pick (ends_in sign_aa stem || ends_in letter_aa stem)
    (verb_or ask (stem ++ (letter_u ++ syllable_nu)) (verb_or ask (linked ++ syllable_nu) none))
    (verb_or ask (linked ++ syllable_nu) none)))

-- the infinitive that a link line names, where it is a verb
abbrev pub verb_told : Ask → Reply → Lemma
verb_told ask (told infinitive) = verb_or ask infinitive none
verb_told ask unknown = none

-- if the linked form has a link line, its infinitive decides alone
abbrev pub decided : Ask → List ℕ → List ℕ → Reply → Lemma
decided ask linked stem (told infinitive) = verb_or ask infinitive none
decided ask linked stem unknown = regular ask linked stem

-- finding a lemma: a stem that is empty or ends in ् has none
unfoldable pub lemma_of : Ask → List ℕ → List ℕ → Lemma
lemma_of ask linked stem = pick (eqb (length stem) 0 || ends_in virama stem) none (decided ask linked stem (ask 0x6C linked))

-- what the analysis finds: no progressive form, or one with its lemma, negative or not
pub data Outcome : Type 0 where
  no : Outcome
  yes : List ℕ → Bool → Outcome

-- if none is found, one leading न is removed from linked form and stem and the search is made once more
abbrev pub negative : Lemma → Outcome
negative none = no
negative (lemma name) = yes name true

abbrev pub first : Lemma → Outcome → Outcome
first (lemma name) rest = yes name false
first none rest = rest

abbrev pub searched : Ask → List ℕ → List ℕ → Outcome
searched ask linked stem =
    first (lemma_of ask linked stem)
    (pick (begins_with letter_na stem) (negative (lemma_of ask (drop 3 linked) (drop 3 stem))) no)

-- the linked form stands before the ending, and the stem is the linked form without its last character
abbrev pub linked_of : List ℕ → List ℕ
linked_of w = take (length w - 15) w

abbrev pub stem_of : List ℕ → List ℕ
stem_of w = take (length w - 18) w

-- the word ends in one of the three; before it stands a linked form ending in ि or इ
unfoldable pub is_shaped : List ℕ → Bool
is_shaped w = (ends_in raheko w || ends_in raheki w || ends_in raheka w) && (ends_in sign_i (linked_of w) || ends_in letter_i (linked_of w))

-- the progressive form of the word, if it is one
unfoldable pub progressive_of : Ask → List ℕ → Outcome
progressive_of ask w = pick (is_shaped w && is_verb ask rahanu) (searched ask (linked_of w) (stem_of w)) no

abbrev pub is_yes : Outcome → Bool
is_yes no = false
is_yes (yes name n) = true

-- a supported progressive form: one in which a lemma is found
abbrev pub is_progressive : Ask → List ℕ → Bool
is_progressive ask w = is_yes (progressive_of ask w)
