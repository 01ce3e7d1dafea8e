-- What is found of a sheet's lines: one text of the 25 after the other, one line after the other, codes that say their findings again, and
-- the lines of a report. The proofs of faults.rt, lines.rt and entry.rt cite these. Assumes nothing.
use Rattle.std.specs.Prelude.{Ok, Option, Some, None}
use Prim.Native.Nat.{ℕ, zero, suc, ◌+◌, ◌-◌, ◌*◌, ◌/◌, ◌%◌, ◌≤◌, ◌<◌}
use native.Mathlib.Numerals.{add-one}
use native.Mathlib.Omega.{arith}
use mathlib.Core.Path.{◌≡◌, refl, ap, ◌∙◌}
use mathlib.Core.Bool.{true, false}
use mathlib.Core.List.{List, [], ◌∷◌, ◌++◌}
use lib.ListN.{length, take, drop, get_or, drop_of_length-le}
use lib.Seq.{drop-cons}
use Rattle.runs.specs.Runs.{same_text}
use Rattle.sheet.specs.Forms.{is_form, key, key_of}
use Rattle.sheet.specs.Lines.{starts_of, line_at, sheet_check}
use Rattle.sheet.proofs.Accepted.{GoesUp, accepted_up}
use Rattle.sheet.specs.Steps.{name_end}
use Rattle.referred.specs.declared.Fault.{Fault}
use Rattle.referred.specs.declared.Fault.TheVariants.{Missing, NotVerb, Unused}
use Rattle.referred.specs.declared.Finding.{Finding}
use Rattle.referred.specs.Report.{is_text, fault_at, found, findings_at, findings_of, before, behind, finding_line, finding_lines}
use Rattle.referred.specs.Codes.{code_for, codes_of, fault_in}

-- line i, and those to come
module _ (s starts : List ℕ) (i : ℕ) (h : i < length starts) where
  pub found_none : fault_at s (get_or starts i 0) ≡ None → findings_at s (drop i starts) ≡ findings_at s (drop (i + 1) starts)
  unfolding findings_at
  found_none z = rw (drop-cons starts i 0 h, z, add-one i)

  pub found_some : (f : Fault) → fault_at s (get_or starts i 0) ≡ Some f
      → findings_at s (drop i starts) ≡ record { line = get_or starts i 0; fault = f } ∷ findings_at s (drop (i + 1) starts)
  unfolding findings_at
  found_some f z = rw (drop-cons starts i 0 h, z, add-one i)

pub found_end : (s : List ℕ) (starts : List ℕ) (i : ℕ) → length starts ≤ i → findings_at s (drop i starts) ≡ []
unfolding findings_at
found_end s starts i h = rw (drop_of_length-le starts h)

pub codes_length : (fs : List Finding) → length (codes_of fs) ≡ length fs
codes_length [] = refl
codes_length (f ∷ fs) = ap suc (codes_length fs)

-- what a code says is the finding again
module _ (s : List ℕ) (at : ℕ) where
  line-back : (n : ℕ) → n < 256 → (at * 256 + n) / 256 ≡ at
  line-back n h = omega arith

  number-back : (n : ℕ) → n < 256 → (at * 256 + n) % 256 ≡ n
  number-back n h = omega arith

  pub code-back : (f : Fault) → (code_for at f / 256 ≡ at) × (fault_in (code_for at f) ≡ f)
  unfolding fault_in
  code-back Missing = (line-back 1 (omega arith), rw (number-back 1 (omega arith)))
  code-back NotVerb = (line-back 2 (omega arith), rw (number-back 2 (omega arith)))
  code-back Unused = (line-back 3 (omega arith), rw (number-back 3 (omega arith)))

-- a form stands where each finding says
module _ (s : List ℕ) where
  abbrev pub FormsAt : List Finding → Type 0
  FormsAt fs = (k : ℕ) (d : Finding) → k < length fs → is_form (drop (get_or fs k d).line s) ≡ true

  abbrev Forms : List Finding → Type 0
  Forms [] = Unit {0}
  Forms (f ∷ fs) = (is_form (drop f.line s) ≡ true) × Forms fs

  form-there : (fs : List Finding) → Forms fs → FormsAt fs
  form-there [] f k d h = absurd (omega arith)
  form-there (x ∷ fs) f zero d h = f.0
  form-there (x ∷ fs) f (suc k) d h = form-there fs f.1 k d (omega arith)

  one_form : (at : ℕ) (f : Option Fault) (rest : List Finding) → is_form (drop at s) ≡ true → Forms rest → Forms (found at f ++ rest)
  one_form at None rest h k = k
  one_form at (Some f) rest h k = (h, k)

  forms_up : (last places : List ℕ) → GoesUp s last places → Forms (findings_at s places)
  unfolding findings_at
  forms_up last [] g = tt
  forms_up last (at ∷ places) g = one_form at (fault_at s at) (findings_at s places) g.0 (forms_up (key (line_at s at)) places g.2)

  pub forms_found : sheet_check s ≡ Ok tt → FormsAt (findings_of s)
  forms_found h = form-there (findings_of s) (forms_up [] (starts_of s) (accepted_up s h))

-- one finding, and those to come
module _ (s : List ℕ) (fs : List Finding) (i : ℕ) where
  pub lines_turn : i < length fs → finding_lines s (drop i fs) ≡ finding_line s (get_or fs i (record { line = 0; fault = Missing })) ++ finding_lines s (drop (i + 1) fs)
  unfolding finding_lines
  lines_turn h = ap (finding_lines s) (drop-cons fs i (record { line = 0; fault = Missing }) h) ∙ rw add-one

  pub lines_end : length fs ≤ i → finding_lines s (drop i fs) ≡ []
  unfolding finding_lines
  lines_end h = rw (drop_of_length-le fs h)

-- a finding's line, put in three parts
pub line-parts : (s : List ℕ) (f : Finding) → before f.fault ++ ((line_at s f.line).name ++ behind f.fault) ≡ finding_line s f
unfolding finding_line
line-parts s f = refl
