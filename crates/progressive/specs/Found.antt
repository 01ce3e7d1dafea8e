-- How the code says a lemma and a progressive form: by places in the word and in the sheet (document 01, progressive.rs: a found
-- lemma is the part of the sheet that holds its name in its `w` line, and the main form keeps its न). Assumes nothing.
use Rattle.std.specs.Prelude.{ℕ, ◌+◌, ◌-◌, ◌≤◌, ◌≡◌, Bool, ◌||◌, List, [], length, take, drop, Option, Some, None, unwrap_or}
use Rattle.runs.specs.Runs.{ends_in}
use Rattle.sheet.specs.Replies.{Reply, unknown, told, reply}
use Rattle.lookup.specs.declared.answers.Spot.{Spot}
use Rattle.lookup.specs.Search.{place_of}
use Rattle.lookup.specs.Answers.{text_at, SpotIn, name_spot}
use Rattle.progressive.specs.declared.find.Progressive.{Progressive}
use Rattle.progressive.specs.Progressive.{raheko, raheki, raheka, Lemma, none, lemma, Outcome, no, yes, progressive_of}

-- the word ends in one of the three
abbrev pub ends_in_rahek : List ℕ → Bool
ends_in_rahek w = ends_in raheko w || ends_in raheki w || ends_in raheka w

-- where the name stands in its `w` line, if it has one
abbrev pub name_at : List ℕ → List ℕ → Option Spot
name_at s name = name_spot s (place_of s 0x77 name)

abbrev pub lemma_spot : List ℕ → Lemma → Option Spot
lemma_spot s none = None
lemma_spot s (lemma name) = name_at s name

-- what stands there
abbrev pub lemma_told : Lemma → Reply
lemma_told none = unknown
lemma_told (lemma name) = told name

-- the part of the sheet that holds a lemma's name: settled, read as the lemma, and inside the sheet
pub record LemmaAt (s : List ℕ) (l : Lemma) (r : Option Spot) : Type 0 where
  pub settled : r ≡ lemma_spot s l
  pub reads : text_at s r ≡ lemma_told l
  pub inside : SpotIn s r

-- the form whose main form ends at byte n and whose lemma stands at r
abbrev pub form_with : ℕ → Bool → Spot → Progressive
form_with n b r = record { main_end = n; negative = b; lemma_at = r.at; lemma_len = r.len }

-- where a lemma's name stands: a verb has its line, and of any other name no bytes at 0 are told
abbrev pub place_at : List ℕ → List ℕ → Spot
place_at s name = unwrap_or (name_at s name) (record { at = 0; len = 0 })

-- the main form is all of the word before its ending of 15 bytes
abbrev pub form_of : List ℕ → List ℕ → Outcome → Option Progressive
form_of s w no = None
form_of s w (yes name n) = Some (form_with (length w - 15) n (place_at s name))

-- the lemma's name, no bytes for none
abbrev pub lemma_name : Outcome → List ℕ
lemma_name no = []
lemma_name (yes name n) = name

-- the part of the sheet that holds it
abbrev pub part_at : List ℕ → Option Progressive → List ℕ
part_at s None = []
part_at s (Some r) = take r.lemma_len (drop r.lemma_at s)

-- a form has its places in word and sheet
abbrev pub LiesIn : List ℕ → List ℕ → Option Progressive → Type 0
LiesIn w s None = Unit {0}
LiesIn w s (Some r) = (r.lemma_at + r.lemma_len ≤ length s) × (r.main_end ≤ length w)

-- the progressive form of w, if it is one, as the sheet s replies: settled; its places read the lemma's name and lie in sheet and word
pub record FormAt (s w : List ℕ) (r : Option Progressive) : Type 0 where
  pub settled : r ≡ form_of s w (progressive_of (reply s) w)
  pub reads : part_at s r ≡ lemma_name (progressive_of (reply s) w)
  pub lies : LiesIn w s r
