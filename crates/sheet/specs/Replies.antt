-- What a sheet replies to a question (document 01, "The sheet"): each by exact bytes, and a string without a line is unknown.
-- Assumes nothing.
use Rattle.std.specs.Prelude.{ℕ, ◌≡◌, List, [], ◌∷◌, Ok}
use Rattle.runs.specs.Runs.{pick, same_text}
use Rattle.sheet.specs.Letters.{letters_of, no_letters}
use Rattle.sheet.specs.Forms.{Entry, key, key_of}
use Rattle.sheet.specs.Lines.{lines_of, starts_of, sheet_check}
use Rattle.sheet.specs.declared.letters.Letters.{Letters}

-- a reply: the value of the question's line, or that there is none
pub data Reply : Type 0 where
  unknown : Reply
  told : List ℕ → Reply

-- the reply of a list of entries to the question q, a key
abbrev pub reply_in : List Entry → List ℕ → Reply
reply_in [] q = unknown
reply_in (e ∷ es) q = pick (same_text (key e) q) (told e.value) (reply_in es q)

-- the sheet's reply to a question: a first letter and a name
unfoldable pub reply : List ℕ → ℕ → List ℕ → Reply
reply s letter name = reply_in (lines_of s) (key_of letter name)

-- all that a sheet is asked: a reply to each first letter and name. What is said of a word below says it of replies, so that two
-- sheets which reply alike are the same to it
abbrev pub Ask : Type 0
Ask = ℕ → List ℕ → Reply

-- two sheets reply alike to a question: neither has a line for it, or both give the same letters, infinitive or kind
unfoldable pub Alike : List ℕ → List ℕ → ℕ → List ℕ → Type 0
Alike s t letter name = reply s letter name ≡ reply t letter name

abbrev pub letters_told : Reply → Letters
letters_told unknown = no_letters
letters_told (told v) = letters_of v

-- the letters of a name's `w` line, none where it has no line
unfoldable pub letters_for : List ℕ → List ℕ → Letters
letters_for s name = letters_told (reply s 0x77 name)

-- the same of replies
abbrev pub letters_by : Ask → List ℕ → Letters
letters_by ask name = letters_told (ask 0x77 name)

-- starts is what stands for the accepted sheet s in a search: the first byte of each of its lines
pub record Indexed (s starts : List ℕ) : Type 0 where
  pub accepted : sheet_check s ≡ Ok tt
  pub listed : starts ≡ starts_of s
