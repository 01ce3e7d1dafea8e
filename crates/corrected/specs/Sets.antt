-- The lines of a sheet as a set, what an edit changes in it, and the sheet written afresh from a set (document 02 (c)). Which lines are of
-- one first letter and name, and which stands first, is said by their keys alone. Assumes nothing.
use Rattle.std.specs.Prelude.{ℕ, Bool, ◌&&◌, List, [], ◌∷◌}
use Rattle.runs.specs.Runs.{pick, same_text, cmp, is_less}
use Rattle.sheet.specs.Forms.{Entry, entry_of, written, is_form, key}
use Rattle.sheet.specs.Lines.{lines_of, sheet_text}

-- a given line is a single form: a form with its 0A, and nothing behind it
unfoldable pub is_single : List ℕ → Bool
is_single line = is_form line && same_text (written (entry_of line)) line

-- the lines but the one with the key k
abbrev pub without : List ℕ → List Entry → List Entry
without k [] = []
without k (f ∷ fs) = pick (same_text (key f) k) (without k fs) (f ∷ without k fs)

-- the lines with e, which takes the place of the one with its key
abbrev pub having : Entry → List Entry → List Entry
having e es = e ∷ without (key e) es

-- lines in the order of their keys
abbrev pub placed : Entry → List Entry → List Entry
placed e [] = e ∷ []
placed e (f ∷ fs) = pick (is_less (cmp (key e) (key f))) (e ∷ f ∷ fs) (f ∷ placed e fs)

abbrev pub in_order : List Entry → List Entry
in_order [] = []
in_order (e ∷ es) = placed e (in_order es)

-- the sheet written afresh from a set of lines
abbrev pub afresh : List Entry → List ℕ
afresh es = sheet_text (in_order es)

-- the sheet s with the given line put, and with the line that has the given line's first letter and name withdrawn
unfoldable pub put_text : List ℕ → List ℕ → List ℕ
put_text s line = afresh (having (entry_of line) (lines_of s))

unfoldable pub withdrawn_text : List ℕ → List ℕ → List ℕ
withdrawn_text s line = afresh (without (key (entry_of line)) (lines_of s))
