-- The reader's step from line to line (document 01, "The sheet"): what stands at a place. Assumes nothing.
use Rattle.std.specs.Prelude.{ℕ, ◌+◌, List, [], ◌∷◌, length, drop, leb, Option, Some, None, Result, Ok, Err}
use Rattle.runs.specs.Runs.{pick, begins_with}
use Rattle.text.specs.Names.{name_run}
use Rattle.sheet.specs.Forms.{front, is_name, is_form}
use Rattle.sheet.specs.Lines.{line_at}
use Rattle.sheet.specs.declared.line.Cursor.{Cursor}
use Rattle.sheet.specs.declared.line.Form.{Form}
use Rattle.sheet.specs.declared.line.LineFault.{LineFault}
use Rattle.sheet.specs.declared.line.LineFault.TheVariants.{NoForm}

-- the head of a form: a parenthesis, its first letter, a space
abbrev pub head_with : ℕ → List ℕ
head_with letter = 0x28 ∷ letter ∷ 0x20 ∷ []

-- the first letter of the form whose head stands at the front of t: w, l or k
unfoldable pub head_of : List ℕ → Option ℕ
head_of t =
    pick (begins_with (head_with 0x77) t) (Some 0x77)
    (pick (begins_with (head_with 0x6C) t) (Some 0x6C)
    (pick (begins_with (head_with 0x6B) t) (Some 0x6B)
    None))

-- how long the name at the front of t is, where the bytes before the first forbidden one are a name
unfoldable pub name_read : List ℕ → Option ℕ
name_read t = pick (is_name (front t)) (Some (name_run t)) None

-- where the first name of the line at `at` ends, and its value
abbrev pub name_end : List ℕ → ℕ → ℕ
name_end s at = at + 3 + length (line_at s at).name

abbrev pub value_end : List ℕ → ℕ → ℕ
value_end s at = name_end s at + 2 + length (line_at s at).value

-- the form at `at`, with its letter and places and the next line's
abbrev pub form_at : List ℕ → ℕ → Form Cursor
form_at s at = record { letter = (line_at s at).letter; name_end = name_end s at; value_end = value_end s at; next = record { at = value_end s at + 3 } }

-- the form that stands there, where one does
unfoldable pub form_there : List ℕ → ℕ → Option (Form Cursor)
form_there s at = pick (is_form (drop at s)) (Some (form_at s at)) None

-- the line at `at`: nothing at the end of the sheet, a form, or no form
unfoldable pub step_at : List ℕ → ℕ → Result (Option (Form Cursor)) LineFault
step_at s at = pick (leb (length s) at) (Ok None) (pick (is_form (drop at s)) (Ok (Some (form_at s at))) (Err NoForm))
