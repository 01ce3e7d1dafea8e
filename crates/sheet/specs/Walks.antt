-- The walk over a sheet's lines: what a step reaches at a place, after a last line. Assumes nothing.
use Rattle.std.specs.Prelude.{ℕ, ◌+◌, ◌≡◌, true, List, [], length, drop, leb, None, Option, Some, Result, Ok, Err}
use Rattle.runs.specs.Runs.{pick, cmp, is_less}
use Rattle.sheet.specs.Forms.{is_form, key}
use Rattle.sheet.specs.Lines.{line_at, starts_from}
use Rattle.sheet.specs.Steps.{name_end, value_end}
use Rattle.sheet.specs.declared.walk.Walk.{Walk}
use Rattle.sheet.specs.declared.line.Form.{Form}
use Rattle.sheet.specs.declared.line.LineFault.{LineFault}
use Rattle.sheet.specs.declared.line.LineFault.TheVariants.{NoForm, NotAbove}

-- the key of the line before; no key is below the empty one, so the first line is above what stands before it
abbrev pub key_before : List ℕ → Option ℕ → List ℕ
key_before s None = []
key_before s (Some at) = key (line_at s at)

-- a form stands at the line before
abbrev pub Standing : List ℕ → Option ℕ → Type 0
Standing s None = Unit {0}
Standing s (Some at) = is_form (drop at s) ≡ true

-- the starts of the lines from the walk's place on
abbrev pub starts_ahead : List ℕ → Walk → List ℕ
starts_ahead s w = starts_from true w.at (drop w.at s)

-- the walk from behind the form at which it stands, and that form, with its letter and places
abbrev pub behind : List ℕ → Walk → Walk
behind s w = record { at = value_end s w.at + 3; last = Some w.at }

abbrev pub form_reached : List ℕ → Walk → Form Walk
form_reached s w = record { letter = (line_at s w.at).letter; name_end = name_end s w.at; value_end = value_end s w.at; next = behind s w }

-- nothing at the end of the sheet; a form above the last; a form not above; no form
unfoldable pub reached : List ℕ → Walk → Result (Option (Form Walk)) LineFault
reached s w =
    pick (leb (length s) w.at) (Ok None)
    (pick (is_form (drop w.at s))
    (pick (is_less (cmp (key_before s w.last) (key (line_at s w.at))))
    (Ok (Some (form_reached s w)))
    (Err NotAbove))
    (Err NoForm))
