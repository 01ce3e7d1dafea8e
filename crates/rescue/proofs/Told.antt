-- The report told part by part, and what is told of a sheet's front up to one byte past the limit, which is told of the sheet: a longer
-- one is refused. Assumes nothing.
use Rattle.std.proofs.Common.{◌≡◌, ℕ, ◌<◌, ◌≤◌, Bool, true, false, List, [], ◌++◌, length, take}
use Rattle.std.proofs.lemmas.List.{take_all, length-take-le}
use native.Mathlib.Omega.{arith}
use mathlib.Core.Path.{refl, sym, ap, subst, ◌∙◌}
use mathlib.Core.List.{append_assoc, append-nil}
use lib.Dec.{ltb}
use borrow.Author.Tests.{lt-ltb, le-ltb, ltb-true, ltb-false}
use Rattle.refusals.specs.Refusals.{numbers_of}
use Rattle.refusals.specs.declared.Refusal.TheVariants.{SheetTooLong}
use Rattle.sheet.specs.Limits.{sheet_limit}
use Rattle.sheet.specs.declared.walk.Walk.{Walk}
use Rattle.writing.specs.Decimal.{decimal, digits_in}
use Rattle.writing.specs.Refused.{refused_text}
use Rattle.rescued.specs.declared.part.Torn.{Torn}
use Rattle.rescued.specs.Stretches.{kept_of, report_of}
use Rattle.rescued.specs.Parts.{Parted}
use Rattle.rescue.specs.Printed.{kept_printed, report_told}

-- a part of the report of one sheet is one of that of another where they are the same
pub part_of : {a b : Torn} {w v : Walk} {old out : List ℕ} {n : ℕ} → a ≡ b → Parted a.sheet.now w v old out n → Parted b.sheet.now w v old out n
part_of {w = w} {v = v} {old = old} {out = out} {n = n} e p = subst (λ (t : Torn). Parted t.sheet.now w v old out n) e p

-- a part more of a report
pub part_more : (done part next here whole : List ℕ) → done ++ here ≡ whole → part ++ next ≡ here → (done ++ part) ++ next ≡ whole
part_more done part next here whole p q = append_assoc done part next ∙ ap (λ (l : List ℕ). done ++ l) q ∙ p

-- nothing is left of it
pub part_last : (done here whole : List ℕ) → done ++ here ≡ whole → here ≡ [] → done ≡ whole
part_last done here whole p q = sym (append-nil done) ∙ ap (λ (l : List ℕ). done ++ l) (sym q) ∙ p

-- how long the line of the refusal is
pub refusal_line : length (refused_text (numbers_of SheetTooLong)) ≡ 12
unfolding refused_text decimal digits_in
refusal_line = refl

module _ (s : List ℕ) where
  pub long_kept : sheet_limit < length s → kept_printed s ≡ []
  unfolding kept_printed
  long_kept h = rw (lt-ltb sheet_limit (length s) h) refl

  pub long_told : sheet_limit < length s → report_told s ≡ refused_text (numbers_of SheetTooLong)
  unfolding report_told
  long_told h = rw (lt-ltb sheet_limit (length s) h) refl

  pub short_kept : length s ≤ sheet_limit → kept_printed s ≡ kept_of s
  unfolding kept_printed
  short_kept h = rw (le-ltb _ _ h) refl

  pub short_told : length s ≤ sheet_limit → report_told s ≡ report_of s
  unfolding report_told
  short_told h = rw (le-ltb _ _ h) refl

pub kept_front : (s : List ℕ) → kept_printed (take 65537 s) ≡ kept_printed s
kept_front s = go (ltb sheet_limit (length s)) refl
  where
    go : (b : Bool) → ltb sheet_limit (length s) ≡ b → kept_printed (take 65537 s) ≡ kept_printed s
    go true e =
        let h = ltb-true sheet_limit (length s) e in
        let n = length-take-le 65537 s (omega arith) in
        long_kept (take 65537 s) (omega arith) ∙ sym (long_kept s h)
    go false e = let h = ltb-false _ _ e in ap kept_printed (take_all 65537 s (omega arith))

pub told_front : (s : List ℕ) → report_told (take 65537 s) ≡ report_told s
told_front s = go (ltb sheet_limit (length s)) refl
  where
    go : (b : Bool) → ltb sheet_limit (length s) ≡ b → report_told (take 65537 s) ≡ report_told s
    go true e =
        let h = ltb-true sheet_limit (length s) e in
        let n = length-take-le 65537 s (omega arith) in
        long_told (take 65537 s) (omega arith) ∙ sym (long_told s h)
    go false e = let h = ltb-false _ _ e in ap report_told (take_all 65537 s (omega arith))
