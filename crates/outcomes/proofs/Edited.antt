-- A list made before an edit (document 02 (c)): joins what an edit leaves unchanged to the rule of lists. Assumes nothing.
use Rattle.std.specs.Prelude.{Ok}
use Prim.Native.Nat.{ℕ}
use mathlib.Core.Path.{◌≡◌, refl}
use mathlib.Core.Bool.{Bool, true, false}
use mathlib.Core.List.{List}
use lib.ListN.{take}
use Rattle.runs.specs.Runs.{same_text}
use Rattle.runs.proofs.Ordered.{same_true}
use Rattle.text.specs.Word.{word_check}
use Rattle.sheet.specs.Forms.{entry_of, key, key_of}
use Rattle.sheet.specs.Replies.{reply, Alike}
use Rattle.paths.specs.Questions.{Own}
use Rattle.analysis.specs.Answers.{said_of, rows_given, visits_given}
use Rattle.analysis.proofs.Promises.{same_answer, same_visits}
use Rattle.corrected.specs.Answers.{Made}
use Rattle.corrected.proofs.Members.{apart_differ}
use Rattle.corrected.proofs.Buffers.{made_accepted, made_others}

-- Take a sheet in a buffer, an edit that was made of it, and an accepted word. If the question of the edited line's first letter and name is
-- none of the word's own, or is answered alike before and after, then the word's list is after the edit what it was before: the same
-- readings in the same order with the same marks, scores and origins, or 7 both times, and the same number of pieces visited.
pub list_holds : (buf : List ℕ) (used : ℕ) (line after : List ℕ) (n : ℕ) → Made buf used line after n → (w : List ℕ) → word_check w ≡ Ok tt
    → ((letter : ℕ) (name : List ℕ) → Own (reply (take used buf)) w letter name → key_of letter name ≡ key (entry_of line) → Alike (take used buf) (take n after) letter name)
    → (said_of w (take used buf) ≡ said_of w (take n after)) × (rows_given w (take used buf) ≡ rows_given w (take n after))
    × (visits_given w (take used buf) ≡ visits_given w (take n after))
list_holds buf used line after n m w a h =
    let s = take used buf in
    let t = take n after in
    let k = made_accepted buf used line after n m in
    let r = same_answer s t w a k.0 k.2 alike in
    (r.0, r.1, same_visits s t w a k.0 k.2 alike)
  where
    alike : (letter : ℕ) (name : List ℕ) → Own (reply (take used buf)) w letter name → Alike (take used buf) (take n after) letter name
    alike letter name o = by (same_text (key_of letter name) (key (entry_of line))) refl
      where
        by : (b : Bool) → same_text (key_of letter name) (key (entry_of line)) ≡ b → Alike (take used buf) (take n after) letter name
        by true e = h letter name o (same_true (key_of letter name) (key (entry_of line)) e)
        by false e = made_others buf used line after n m letter name (apart_differ (key_of letter name) (key (entry_of line)) e)

-- and so wherever the edited line is not among the word's own questions
pub list_untouched : (buf : List ℕ) (used : ℕ) (line after : List ℕ) (n : ℕ) → Made buf used line after n → (w : List ℕ) → word_check w ≡ Ok tt
    → ((letter : ℕ) (name : List ℕ) → Own (reply (take used buf)) w letter name → key_of letter name ≡ key (entry_of line) → ⊥)
    → rows_given w (take used buf) ≡ rows_given w (take n after)
list_untouched buf used line after n m w a h = (list_holds buf used line after n m w a (λ letter name o e. absurd (h letter name o e))).1
