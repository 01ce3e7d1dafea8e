-- Laws of what is said of a word and a sheet together: they are accepted exactly where both are; the number of a refusal is the lowest
-- that applies; its faulty line begins inside the sheet. Every entry cites it. Assumes nothing.
use Rattle.std.specs.Prelude.{Err, Ok, Result, IsErr, IsErrAnd}
use Prim.Native.Nat.{ℕ, ◌≤◌}
use native.Mathlib.Omega.{arith}
use mathlib.Core.Path.{◌≡◌, refl, sym, ap, subst, ◌∙◌}
use mathlib.Core.Bool.{Bool, true, false, not}
use mathlib.Core.List.{List, [], ◌++◌}
use lib.ListN.{length}
use lib.Dec.{ltb}
use Rattle.runs.specs.Runs.{pick}
use Rattle.refusals.specs.Refusals.{number, numbers_of, cause_if, lowest_numbers_of, or_else}
use Rattle.refusals.specs.declared.Refusal.TheVariants.{WordTooLong, WordNotUtf8, WordForbidden, SheetTooLong}
use Rattle.refusals.proofs.Lowest.{AtLeast, at_least_if, at_least_down, AtMost, at_most_if, lead, lead_all}
use Rattle.text.specs.Utf8.{is_utf8}
use Rattle.text.specs.Names.{holds_forbidden}
use Rattle.text.specs.Word.{word_limit, word_check, refusal_of as word_refusal_of}
use Rattle.text.specs.declared.word.WordFault.{WordFault}
use Rattle.text.specs.declared.word.WordFault.TheVariants as words
use Rattle.sheet.specs.Limits.{sheet_limit}
use Rattle.sheet.specs.Lines.{starts_of, judged, sheet_check, refusal_of as sheet_refusal_of}
use Rattle.sheet.specs.Inputs.{by_sheet, by_word_then, inputs_of, numbers_given, fault_of, causes, lowest_numbers, Placed}
use Rattle.sheet.specs.declared.check.SheetFault.{SheetFault}
use Rattle.sheet.specs.declared.check.SheetFault.TheVariants as sheets
use Rattle.refusals.specs.declared.Refusal.{Refusal}
use Rattle.sheet.proofs.Faults.{Inside, fault-inside}

abbrev PlacedIn : Result (Unit {0}) Refusal → Type 0
PlacedIn (Ok _) = Unit {0}
PlacedIn (Err r) = Placed r

abbrev LowIn : Result (Unit {0}) Refusal → Type 0
LowIn (Ok _) = Unit {0}
LowIn (Err r) = number r ≤ 6

module _ (w s : List ℕ) where
  -- word and sheet are accepted together exactly where each is
  pub accepted-each : inputs_of w s ≡ Ok tt → (word_check w ≡ Ok tt) × (sheet_check s ≡ Ok tt)
  unfolding inputs_of
  accepted-each e = go (word_check w) (sheet_check s) e
    where
      go : (x : Result (Unit {0}) WordFault) (y : Result (Unit {0}) SheetFault) → by_word_then x (by_sheet y) ≡ Ok tt → (x ≡ Ok tt) × (y ≡ Ok tt)
      go (Ok _) (Ok _) p = (refl, refl)
      go (Ok _) (Err sheets.TooLong) p = (cc, cc)
      go (Ok _) (Err (sheets.NoForm at)) p = (cc, cc)
      go (Ok _) (Err (sheets.NotAbove at)) p = (cc, cc)
      go (Err words.TooLong) y p = (cc, cc)
      go (Err words.NotUtf8) y p = (cc, cc)
      go (Err words.Forbidden) y p = (cc, cc)

  pub accepted-both : word_check w ≡ Ok tt → sheet_check s ≡ Ok tt → inputs_of w s ≡ Ok tt
  unfolding inputs_of
  accepted-both e f = ap (λ (x : Result (Unit {0}) WordFault). by_word_then x (by_sheet (sheet_check s))) e ∙ ap by_sheet f

  -- where the word is refused, so are both; and where the word is accepted, what refuses the sheet refuses both
  pub word-refused : (f : WordFault) → word_check w ≡ Err f → inputs_of w s ≡ Err (word_refusal_of f)
  unfolding inputs_of
  word-refused f e = ap (λ (x : Result (Unit {0}) WordFault). by_word_then x (by_sheet (sheet_check s))) e

  pub sheet-refused : (f : SheetFault) → word_check w ≡ Ok tt → sheet_check s ≡ Err f → inputs_of w s ≡ Err (sheet_refusal_of f)
  unfolding inputs_of
  sheet-refused f e d = ap (λ (x : Result (Unit {0}) WordFault). by_word_then x (by_sheet (sheet_check s))) e ∙ ap by_sheet d

  -- the same of what `?` hands on: r is the refusal that the fault is turned into
  module _ {A : Type 0} (P : Result A Refusal → Type 0) (g : (q : Refusal) → inputs_of w s ≡ Err q → P (Err q)) where
    handed : (r : Result A Refusal) (q : Refusal) → IsErrAnd r (λ x. x ≡ q) → inputs_of w s ≡ Err q → P r
    handed (Ok x) q h e = absurd h
    handed (Err x) q h e = subst (λ (y : Refusal). P (Err y)) (sym h) (g q e)

    pub word-handed : (r : Result A Refusal) (f : WordFault) → IsErr r × IsErrAnd r (λ x. x ≡ word_refusal_of f) → Err f ≡ word_check w → P r
    word-handed r f h e = handed r (word_refusal_of f) h.1 (word-refused f (sym e))

    pub sheet-handed : (r : Result A Refusal) (f : SheetFault) → IsErr r × IsErrAnd r (λ x. x ≡ sheet_refusal_of f) → Ok tt ≡ word_check w → sheet_check s ≡ Err f → P r
    sheet-handed r f h d e = handed r (sheet_refusal_of f) h.1 (sheet-refused f (sym d) e)

  -- the numbers given are the lowest that apply
  pub lowest : numbers_given (inputs_of w s) ≡ lowest_numbers w s
  unfolding inputs_of lowest_numbers word_check sheet_check
  lowest =
      let a = ltb word_limit (length w) in
      let b = not (is_utf8 w) in
      let c = holds_forbidden w in
      let d = ltb sheet_limit (length s) in
      let y = judged s [] (starts_of s) in
      let sheet-lead = lead d SheetTooLong (fault_of y) (fault_least 4 (omega arith) y) in
      let forbidden-lead = lead c WordForbidden _ (sheet_least 3 (omega arith)) ∙ ap (pick c (numbers_of WordForbidden)) sheet-lead in
      let utf8-lead =
      lead b WordNotUtf8 _ (at_least_if 2 c WordForbidden _ (omega arith) (sheet_least 2 (omega arith))) ∙ ap (pick b (numbers_of WordNotUtf8)) forbidden-lead in
      let long-lead =
      lead a WordTooLong _ (at_least_if 1 b WordNotUtf8 _ (omega arith) (at_least_if 1 c WordForbidden _ (omega arith) (sheet_least 1 (omega arith))))
      ∙ ap (pick a (numbers_of WordTooLong)) utf8-lead in
      sym (long-lead ∙ told a b c d y)
    where
      fault_least : (n : ℕ) → n ≤ 4 → (y : Result (Unit {0}) SheetFault) → AtLeast n (fault_of y)
      fault_least n h (Ok _) = tt
      fault_least n h (Err sheets.TooLong) = (h, tt)
      fault_least n h (Err (sheets.NoForm at)) = (omega arith, tt)
      fault_least n h (Err (sheets.NotAbove at)) = (omega arith, tt)

      sheet_least : (n : ℕ) → n ≤ 4 → AtLeast n (cause_if (ltb sheet_limit (length s)) SheetTooLong ++ fault_of (judged s [] (starts_of s)))
      sheet_least n h = at_least_if n (ltb sheet_limit (length s)) SheetTooLong _ h (fault_least n h (judged s [] (starts_of s)))

      of_sheet : (y : Result (Unit {0}) SheetFault) → lowest_numbers_of (fault_of y) ≡ numbers_given (by_sheet y)
      of_sheet (Ok _) = refl
      of_sheet (Err sheets.TooLong) = refl
      of_sheet (Err (sheets.NoForm at)) = refl
      of_sheet (Err (sheets.NotAbove at)) = refl

      told : (a b c d : Bool) (y : Result (Unit {0}) SheetFault)
          → pick a (numbers_of WordTooLong) (pick b (numbers_of WordNotUtf8) (pick c (numbers_of WordForbidden) (pick d (numbers_of SheetTooLong) (lowest_numbers_of (fault_of y)))))
          ≡ numbers_given (by_word_then (pick a (Err words.TooLong) (pick b (Err words.NotUtf8) (pick c (Err words.Forbidden) (Ok tt)))) (by_sheet (pick d (Err sheets.TooLong) y)))
      told true b c d y = refl
      told false true c d y = refl
      told false false true d y = refl
      told false false false true y = refl
      told false false false false y = of_sheet y

  -- and so they are before causes with higher numbers
  pub lowest_then : (rest : List Refusal) → AtLeast 7 rest → lowest_numbers_of (causes w s ++ rest) ≡ or_else (numbers_given (inputs_of w s)) (lowest_numbers_of rest)
  unfolding lowest_numbers
  lowest_then rest h =
      lead_all 6 (causes w s) rest (word_most (ltb word_limit (length w)) (not (is_utf8 w)) (holds_forbidden w)) (at_least_down 6 7 rest (omega arith) h)
      ∙ ap (λ (l : List ℕ). or_else l (lowest_numbers_of rest)) (sym lowest)
    where
      fault_most : (y : Result (Unit {0}) SheetFault) → AtMost 6 (fault_of y)
      fault_most (Ok _) = tt
      fault_most (Err sheets.TooLong) = (omega arith, tt)
      fault_most (Err (sheets.NoForm at)) = (omega arith, tt)
      fault_most (Err (sheets.NotAbove at)) = (omega arith, tt)

      word_most : (a b c : Bool)
          → AtMost 6 (cause_if a WordTooLong ++ (cause_if b WordNotUtf8 ++ (cause_if c WordForbidden ++ (cause_if (ltb sheet_limit (length s)) SheetTooLong ++ fault_of (judged s [] (starts_of s))))))
      word_most a b c =
          at_most_if 6 a WordTooLong _ (omega arith)
          (at_most_if 6 b WordNotUtf8 _ (omega arith)
          (at_most_if 6 c WordForbidden _ (omega arith)
          (at_most_if 6 (ltb sheet_limit (length s)) SheetTooLong _ (omega arith) (fault_most (judged s [] (starts_of s))))))

  inputs_placed : PlacedIn (inputs_of w s)
  unfolding inputs_of
  inputs_placed = by_word (word_check w)
    where
      by-sheet : (y : Result (Unit {0}) SheetFault) → Inside sheet_limit y → PlacedIn (by_sheet y)
      by-sheet (Ok _) i = tt
      by-sheet (Err sheets.TooLong) i = tt
      by-sheet (Err (sheets.NoForm at)) i = (i, tt)
      by-sheet (Err (sheets.NotAbove at)) i = (i, tt)

      by_word : (x : Result (Unit {0}) WordFault) → PlacedIn (by_word_then x (by_sheet (sheet_check s)))
      by_word (Ok _) = by-sheet (sheet_check s) (fault-inside s)
      by_word (Err words.TooLong) = tt
      by_word (Err words.NotUtf8) = tt
      by_word (Err words.Forbidden) = tt

  -- a refusal of word or sheet has one of the numbers 1 to 6
  pub refused-low : (r : Refusal) → inputs_of w s ≡ Err r → number r ≤ 6
  unfolding inputs_of
  refused-low r e = subst LowIn e (by_word (word_check w))
    where
      by-sheet : (y : Result (Unit {0}) SheetFault) → LowIn (by_sheet y)
      by-sheet (Ok _) = tt
      by-sheet (Err sheets.TooLong) = omega arith
      by-sheet (Err (sheets.NoForm at)) = omega arith
      by-sheet (Err (sheets.NotAbove at)) = omega arith

      by_word : (x : Result (Unit {0}) WordFault) → LowIn (by_word_then x (by_sheet (sheet_check s)))
      by_word (Ok _) = by-sheet (sheet_check s)
      by_word (Err words.TooLong) = omega arith
      by_word (Err words.NotUtf8) = omega arith
      by_word (Err words.Forbidden) = omega arith

  -- a refusal's faulty line begins inside the sheet
  pub refused-placed : (r : Refusal) → inputs_of w s ≡ Err r → Placed r
  refused-placed r e = subst PlacedIn e inputs_placed
