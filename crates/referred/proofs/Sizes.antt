-- How long a report is: no line of it is longer than the line that it speaks of. Assumes nothing.
use Rattle.std.specs.Prelude.{Ok, Option, Some, None}
use Prim.Native.Nat.{ℕ, suc, ◌+◌, ◌≤◌, ◌<◌}
use native.Mathlib.Omega.{arith}
use mathlib.Core.Path.{◌≡◌, refl, ap}
use mathlib.Core.Bool.{Bool, true, false, ◌&&◌, ◌||◌}
use mathlib.Core.List.{List, [], ◌∷◌, ◌++◌, map}
use lib.ListN.{length, drop, length-append}
use lib.Dec.{eqb}
use borrow.Author.Tests.{eqb-true}
use Rattle.runs.specs.Runs.{pick, same_text, ends_in}
use Rattle.runs.proofs.Ordered.{same_true}
use Rattle.runs.proofs.Ends.{ends-fits}
use Rattle.runs.proofs.Begins.{and_right}
use Rattle.tables.specs.Tables.{affixes}
use Rattle.sheet.specs.Letters.{letters_of, is_letters}
use Rattle.sheet.specs.Forms.{Entry, written, is_name, is_kind, is_meant, key, sign_i, letter_i, syllable_nu}
use Rattle.sheet.specs.Lines.{starts_of, line_at, sheet_text, sheet_check}
use Rattle.sheet.specs.Replies.{Ask, Reply, reply}
use Rattle.sheet.proofs.Accepted.{GoesUp, accepted_up}
use Rattle.sheet.proofs.Forms.{written-length, form_meant}
use Rattle.sheet.proofs.Texts.{accepted-text}
use Rattle.lookup.proofs.Count.{few-lines}
use Rattle.writing.specs.Decimal.{decimal}
use Rattle.writing.proofs.Sizes.{count-size, more-size}
use Rattle.referred.specs.declared.Fault.{Fault}
use Rattle.referred.specs.declared.Fault.TheVariants.{Missing, NotVerb, Unused}
use Rattle.referred.specs.declared.Finding.{Finding}
use Rattle.referred.specs.Report.{verb_fault, is_text, fault_of, fault_at, found, findings_at, findings_of, finding_line, finding_lines, report_text}

-- a number below 10,000 has at most four digits
four_size : (n : ℕ) → n < 10000 → length (decimal n) ≤ 4
four_size n h = more-size 2 1000 (λ n h. more-size 1 100 count-size n (omega arith)) n (omega arith)

-- how long a value is at least, by what is wrong with its line
abbrev least : Option Fault → ℕ
least None = 0
least (Some Missing) = 6
least (Some NotVerb) = 6
least (Some Unused) = 4

verb_least : (r : Reply) → least (verb_fault r) ≤ 6
verb_least Reply.unknown = omega arith
verb_least (Reply.told v) = by (letters_of v).verb
  where
    by : (b : Bool) → least (pick b None (Some NotVerb)) ≤ 6
    by true = omega arith
    by false = omega arith

kind_long : (v : List ℕ) → is_kind v ≡ true → 4 ≤ length v
unfolding is_kind
kind_long v h = by (same_text v (0x70 ∷ 0x6F ∷ 0x73 ∷ 0x74 ∷ [])) (same_text v (0x63 ∷ 0x6F ∷ 0x6D ∷ 0x70 ∷ [])) refl refl h
  where
    by : (a b : Bool) → same_text v (0x70 ∷ 0x6F ∷ 0x73 ∷ 0x74 ∷ []) ≡ a → same_text v (0x63 ∷ 0x6F ∷ 0x6D ∷ 0x70 ∷ []) ≡ b → (a || b) ≡ true → 4 ≤ length v
    by true b p q k = let l : length v ≡ 4 = ap length (same_true v _ p) in omega arith
    by false true p q k = let l : length v ≡ 4 = ap length (same_true v _ q) in omega arith
    by false false p q k = let z : ◌≡◌ {A = ℕ} 0 1 = cc in absurd (omega arith)

-- a form's value is long enough for what may be wrong with it
value_long : (ask : Ask) (e : Entry) → is_meant e ≡ true → least (fault_of ask e) ≤ length e.value
unfolding fault_of is_meant
value_long ask e m = by (eqb e.letter 0x6C) (eqb e.letter 0x6B) refl refl m
  where
    unused : (b : Bool) → least (pick b None (Some Unused)) ≤ 4
    unused true = omega arith
    unused false = omega arith

    by : (l k : Bool) → eqb e.letter 0x6C ≡ l → eqb e.letter 0x6B ≡ k
        → pick k (is_kind e.value) (pick l ((ends_in sign_i e.name || ends_in letter_i e.name) && is_name e.value && ends_in syllable_nu e.value) (pick (eqb e.letter 0x77) (is_letters e.value) false)) ≡ true
        → least (pick l (verb_fault (ask 0x77 e.value)) (pick k (pick (is_text (key e) affixes) None (Some Unused)) None)) ≤ length e.value
    by true true p q h = let a = eqb-true e.letter 0x6C p in let b = eqb-true e.letter 0x6B q in absurd (omega arith)
    by true false p q h =
        let n = ends-fits syllable_nu e.value (and_right ((ends_in sign_i e.name || ends_in letter_i e.name) && is_name e.value) (ends_in syllable_nu e.value) h) in
        let v = verb_least (ask 0x77 e.value) in
        omega arith
    by false true p q h = let n = kind_long e.value h in let u = unused (is_text (key e) affixes) in omega arith
    by false false p q h = omega arith

module _ (s : List ℕ) where
  one_size : (at : ℕ) (f : Option Fault) (rest : List Finding) (n : ℕ) → least f ≤ length (line_at s at).value → length (finding_lines s rest) ≤ n
      → length (finding_lines s (found at f ++ rest)) ≤ length (written (line_at s at)) + n
  unfolding finding_lines finding_line
  one_size at None rest n h k = omega arith
  one_size at (Some Missing) rest n h k = let w = written-length (line_at s at) in simp length-append (omega arith)
  one_size at (Some NotVerb) rest n h k = let w = written-length (line_at s at) in simp length-append (omega arith)
  one_size at (Some Unused) rest n h k = let w = written-length (line_at s at) in simp length-append (omega arith)

  lines-size : (last places : List ℕ) → GoesUp s last places → length (finding_lines s (findings_at s places)) ≤ length (sheet_text (map (line_at s) places))
  unfolding findings_at finding_lines
  lines-size last [] g = omega arith
  lines-size last (at ∷ places) g =
      let r = one_size at (fault_at s at) (findings_at s places) _ (value_long (reply s) (line_at s at) (form_meant (drop at s) g.0)) (lines-size (key (line_at s at)) places g.2) in
      simp length-append r

  one_more : (at : ℕ) (f : Option Fault) (rest : List Finding) → length (found at f ++ rest) ≤ suc (length rest)
  one_more at None rest = omega arith
  one_more at (Some f) rest = omega arith

  pub findings_few : (places : List ℕ) → length (findings_at s places) ≤ length places
  unfolding findings_at
  findings_few [] = omega arith
  findings_few (at ∷ places) = omega (arith, one_more at (fault_at s at) (findings_at s places), findings_few places)

  -- the sheet's length and 13 bytes are always enough for its report
  pub report_size : sheet_check s ≡ Ok tt → length (report_text s) ≤ length s + 13
  unfolding report_text
  report_size h =
      let l = lines-size [] (starts_of s) (accepted_up s h) in
      let t = ap length (accepted-text s h) in
      let d = four_size (length (findings_of s)) (omega (arith, findings_few (starts_of s), few-lines s h)) in
      simp length-append (omega arith)
