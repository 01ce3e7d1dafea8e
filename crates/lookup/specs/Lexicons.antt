-- What a lexicon is asked, said of its replies alone, and what is asked of a sheet through its lexicon. Assumes nothing.
use Rattle.std.specs.Prelude.{ℕ, ◌≡◌, List, Ok}
use denote.Ref.{Bor, MutBor}
use Rattle.sheet.specs.Lines.{sheet_check}
use Rattle.sheet.specs.Replies.{Ask, reply}
use Rattle.lookup.specs.declared.lexicon.Lexicon.{Lexicon}

-- the replies of a lexicon: those of its sheet
abbrev pub replies : Lexicon → Ask
replies l = reply l.bytes.now

-- the sheet s is accepted, and what was asked was asked of a lexicon of that sheet; `gives` says what it gave
pub record Asked (s : List ℕ) (gives : Bor Lexicon → Type 0) : Type 0 where
  pub accepted : sheet_check s ≡ Ok tt
  pub lexicon : Bor Lexicon
  pub of_sheet : lexicon.now.bytes.now ≡ s
  pub given : gives lexicon

-- the same with a lent output, which held `old` before and holds `new` now; `gives` says what was given and what is left
pub record AskedInto {T : Type 0} (s : List ℕ) (old new : List T) (gives : Bor Lexicon → MutBor (List T) → MutBor (List T) → Type 0) : Type 0 where
  pub accepted : sheet_check s ≡ Ok tt
  pub lexicon : Bor Lexicon
  pub of_sheet : lexicon.now.bytes.now ≡ s
  pub lent : MutBor (List T)
  pub left : MutBor (List T)
  pub before : lent.now ≡ old
  pub after : left.now ≡ new
  pub given : gives lexicon lent left
