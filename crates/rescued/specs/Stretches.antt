-- The stretches of a torn sheet, what becomes of each, the kept sheet and the report (document 02 (m)). Assumes nothing.
use Rattle.std.specs.Prelude.{ℕ, ◌-◌, ◌<◌, ◌≡◌, Bool, true, false, List, [], ◌∷◌, ◌++◌, length, take, drop, Option, Some, None}
use Rattle.runs.specs.Runs.{pick, cmp, is_less}
use Rattle.sheet.specs.Forms.{is_form, key}
use Rattle.sheet.specs.Lines.{starts_of, line_at}
use Rattle.writing.specs.Decimal.{decimal}
use Rattle.sheet.specs.declared.line.LineFault.{LineFault}
use Rattle.sheet.specs.declared.line.LineFault.TheVariants.{NoForm, NotAbove}

-- a line of the input, from its first byte up to behind its ending byte, or of a last one without 0A up to the input's end; it is kept where it
-- has no fault
pub record Stretch : Type 0 where
  pub start : ℕ
  pub end : ℕ
  pub fault : Option LineFault

-- what stands there
abbrev pub text_of : List ℕ → Stretch → List ℕ
text_of s x = take (x.end - x.start) (drop x.start s)

-- the fault for which the line at `at` is dropped, where `last` is the key of the last kept one: a form that stands above it has none, and is
-- kept
unfoldable pub fate_at : List ℕ → List ℕ → ℕ → Option LineFault
fate_at s last at = pick (is_form (drop at s)) (pick (is_less (cmp last (key (line_at s at)))) None (Some NotAbove)) (Some NoForm)

-- the key of the last kept line after it
abbrev pub last_after : List ℕ → List ℕ → ℕ → Option LineFault → List ℕ
last_after s last at None = key (line_at s at)
last_after s last at (Some _) = last

-- a line ends where the next one begins, the last one with the input
abbrev pub end_before : List ℕ → List ℕ → ℕ
end_before s [] = length s
end_before s (next ∷ rest) = next

-- the stretches of the lines that begin at the places given
unfoldable pub stretches_from : List ℕ → List ℕ → List ℕ → List Stretch
stretches_from s last [] = []
stretches_from s last (at ∷ rest) =
    record { start = at; end = end_before s rest; fault = fate_at s last at } ∷ stretches_from s (last_after s last at (fate_at s last at)) rest

-- those of the input; no key is below the empty one, so that the first form is above what stands before it
abbrev pub stretches_of : List ℕ → List Stretch
stretches_of s = stretches_from s [] (starts_of s)

-- of a kept stretch its text, of a dropped one nothing
abbrev pub kept_text : Option LineFault → List ℕ → List ℕ
kept_text None text = text
kept_text (Some _) text = []

-- (cut START LENGTH form) or (cut START LENGTH order), and 0A, of a dropped stretch; of a kept one nothing
abbrev pub cut_head : ℕ → ℕ → List ℕ → List ℕ
cut_head start size tail = (0x28 ∷ 0x63 ∷ 0x75 ∷ 0x74 ∷ 0x20 ∷ []) ++ (decimal start ++ ((0x20 ∷ []) ++ (decimal size ++ tail)))

unfoldable pub cut_line : ℕ → ℕ → Option LineFault → List ℕ
cut_line start size None = []
cut_line start size (Some NoForm) = cut_head start size (0x20 ∷ 0x66 ∷ 0x6F ∷ 0x72 ∷ 0x6D ∷ 0x29 ∷ 0x0A ∷ [])
cut_line start size (Some NotAbove) = cut_head start size (0x20 ∷ 0x6F ∷ 0x72 ∷ 0x64 ∷ 0x65 ∷ 0x72 ∷ 0x29 ∷ 0x0A ∷ [])

-- the kept sheet, and the report
unfoldable pub kept_over : List ℕ → List Stretch → List ℕ
kept_over s [] = []
kept_over s (x ∷ xs) = kept_text x.fault (text_of s x) ++ kept_over s xs

unfoldable pub report_over : List Stretch → List ℕ
report_over [] = []
report_over (x ∷ xs) = cut_line x.start (x.end - x.start) x.fault ++ report_over xs

abbrev pub kept_of : List ℕ → List ℕ
kept_of s = kept_over s (stretches_of s)

abbrev pub report_of : List ℕ → List ℕ
report_of s = report_over (stretches_of s)

-- all stretches laid in their old order
abbrev pub laid : List ℕ → List Stretch → List ℕ
laid s [] = []
laid s (x ∷ xs) = text_of s x ++ laid s xs

-- the dropped ones of stretches, and the kept ones
abbrev pub is_dropped : Option LineFault → Bool
is_dropped None = false
is_dropped (Some _) = true

abbrev pub dropped : List Stretch → List Stretch
dropped [] = []
dropped (x ∷ xs) = pick (is_dropped x.fault) (x ∷ dropped xs) (dropped xs)

abbrev pub kept : List Stretch → List Stretch
kept [] = []
kept (x ∷ xs) = pick (is_dropped x.fault) (kept xs) (x ∷ kept xs)

-- a line of the report for each
abbrev pub cut_lines : List Stretch → List ℕ
cut_lines [] = []
cut_lines (x ∷ xs) = cut_line x.start (x.end - x.start) x.fault ++ cut_lines xs

-- stretches one behind the other, the first from byte n on, the last up to byte `top`
abbrev pub Contiguous : ℕ → ℕ → List Stretch → Type 0
Contiguous top n [] = n ≡ top
Contiguous top n (x ∷ xs) = (x.start ≡ n) × (x.start < x.end) × Contiguous top x.end xs
