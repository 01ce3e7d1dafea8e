-- The input read so far, what was told of it, and what that is of all of it. Assumes nothing.
use Rattle.std.proofs.Common.{◌≡◌, ℕ, ◌<◌, ◌≤◌, List, [], ◌∷◌, ◌++◌, length, take, OnOk, IfSome, Ok, Err, Some, None}
use native.Mathlib.Omega.{arith}
use mathlib.Core.Path.{refl, sym, ap, subst, ◌∙◌}
use mathlib.Core.List.{append_assoc, append-nil}
use lib.ListN.{length-append}
use Rattle.std.specs.Io.KnownBytes.{Appends, Consumes, Keeps, IsAtEnd, ReadConsumes}
use Rattle.std.specs.declared.result.Result.{Result}
use Rattle.std.specs.declared.option.Option.{Option}
use Rattle.intake.proofs.Told.{told_both}
use Rattle.refusals.specs.Refusals.{numbers_of}
use Rattle.refusals.specs.declared.Refusal.{Refusal}
use Rattle.refusals.specs.declared.Refusal.TheVariants as refusals
use Rattle.sheet.specs.Limits.{sheet_limit}
use Rattle.sheet.specs.Lines.{sheet_check}
use Rattle.sheet.specs.Inputs.{by_sheet, Placed}
use Rattle.sheet.proofs.Faults.{Inside, fault-inside}
use Rattle.sheet.specs.declared.check.SheetFault.{SheetFault}
use Rattle.sheet.specs.declared.check.SheetFault.TheVariants as sheets
use Rattle.writing.specs.Refused.{refused_text}
use Rattle.visits.specs.Printed.{said_or, lines_of, unended, last_line, printed}
use Rattle.visits.proofs.Stretches.{lines-both, kept-both, last-kept}
use Rattle.writing.proofs.Sizes.{count-size, number_size}

-- nothing read
pub read_none : (o : Option (List ℕ)) → Consumes o o []
read_none None = tt
read_none (Some xs) = refl

-- one stretch read after another
pub read_both : (old between new : Option (List ℕ)) (a b : List ℕ) → Consumes old between a → Consumes between new b → Consumes old new (a ++ b)
read_both None between new a b p q = tt
read_both (Some xs) None new a b p q = absurd p
read_both (Some xs) (Some ys) None a b p q = absurd q
read_both (Some xs) (Some ys) (Some zs) a b p q = p ∙ ap (λ (l : List ℕ). a ++ l) q ∙ sym (append_assoc a b zs)

-- a read that failed
pub read_kept : (old between new : Option (List ℕ)) (a : List ℕ) → Consumes old between a → Keeps between new → Consumes old new a
read_kept None between new a p q = tt
read_kept (Some xs) None new a p q = absurd p
read_kept (Some xs) (Some ys) None a p q = absurd q
read_kept (Some xs) (Some ys) (Some zs) a p q = p ∙ ap (λ (l : List ℕ). a ++ l) (sym q)

-- where nothing is left, all was read
pub read_all : (old new : Option (List ℕ)) (a : List ℕ) → Consumes old new a → IsAtEnd new → IfSome old (λ xs. a ≡ xs)
read_all None new a p e = tt
read_all (Some xs) None a p e = absurd p
read_all (Some xs) (Some ys) a p e = sym (p ∙ ap (λ (l : List ℕ). a ++ l) e ∙ append-nil a)

-- what was told is the text of what was read
pub told_read : {T E : Type 0} (r : Result T E) (left rest old new : Option (List ℕ)) (read : List ℕ) (text : List ℕ → List ℕ)
    → Consumes left rest read → OnOk r (Appends old new (text read)) → OnOk r ((l : List ℕ) × Consumes left rest l × Appends old new (text l))
told_read (Ok x) left rest old new read text c a = (read, c, a)
told_read (Err x) left rest old new read text c a = tt

-- where nothing is left, it is the text of all
told_whole : (left old new : Option (List ℕ)) (read : List ℕ) (text : List ℕ → List ℕ) → Appends old new (text read) → IfSome left (λ xs. read ≡ xs) → IfSome left (λ xs. Appends old new (text xs))
told_whole None old new read text a e = tt
told_whole (Some xs) old new read text a e = subst (λ (l : List ℕ). Appends old new (text l)) e a

pub told_all : {T E : Type 0} (r : Result T E) (left rest old new : Option (List ℕ)) (text : List ℕ → List ℕ)
    → OnOk r ((l : List ℕ) × Consumes left rest l × Appends old new (text l)) → OnOk r (IsAtEnd rest → IfSome left (λ xs. Appends old new (text xs)))
told_all (Ok x) left rest old new text p = λ e. told_whole left old new p.0 text p.2 (read_all left rest p.0 p.1 e)
told_all (Err x) left rest old new text p = tt

-- a read by how it ended
pub read_ok : {E : Type 0} (old new : Option (List ℕ)) (r : Result ℕ E) (buf : List ℕ) (n : ℕ) → ReadConsumes old new r buf → r ≡ Ok n
    → Consumes old new (take n buf) × (n ≡ 0 → 0 < length buf → IsAtEnd new)
read_ok {E = E} old new r buf n h e = subst (λ (x : Result ℕ E). ReadConsumes old new x buf) e h

pub read_err : {E : Type 0} (old new : Option (List ℕ)) (r : Result ℕ E) (buf : List ℕ) (x : E) → ReadConsumes old new r buf → r ≡ Err x → Keeps old new
read_err {E = E} old new r buf x h e = subst (λ (y : Result ℕ E). ReadConsumes old new y buf) e h

none_taken : (l : List ℕ) → take 0 l ≡ []
none_taken [] = refl
none_taken (x ∷ l) = refl

-- a read of no byte leaves what there was
pub read_end : (old new : Option (List ℕ)) (buf : List ℕ) (n : ℕ) → Consumes old new (take n buf) → n ≡ 0 → Keeps old new
read_end None new buf n h z = tt
read_end (Some xs) None buf n h z = absurd h
read_end (Some xs) (Some ys) buf n h z = sym (h ∙ ap (λ (m : ℕ). take m buf ++ ys) z ∙ ap (λ (l : List ℕ). l ++ ys) (none_taken buf))

-- a text told after another, by how the last call ended
pub told_after : {T E : Type 0} (r : Result T E) (old between new : Option (List ℕ)) (a b : List ℕ)
    → Appends old between a → OnOk r (Appends between new b) → OnOk r (Appends old new (a ++ b))
told_after (Ok x) old between new a b p q = told_both old between new a b p q
told_after (Err x) old between new a b p q = tt

-- One stretch more: what was read before is `read`, of its last word `front` is kept, and the stretch is t.
module _ (sheet read front t : List ℕ) (k : front ≡ take 193 (unended [] read)) where
  pub stretch_lines : (written : List ℕ) → written ≡ lines_of sheet front t → lines_of sheet [] read ++ written ≡ lines_of sheet [] (read ++ t)
  stretch_lines written e =
      ap (λ (l : List ℕ). lines_of sheet [] read ++ l) (e ∙ ap (λ (f : List ℕ). lines_of sheet f t) k) ∙ sym (lines-both sheet [] read t)

  pub stretch_kept : (word : List ℕ) → word ≡ take 193 (unended front t) → word ≡ take 193 (unended [] (read ++ t))
  stretch_kept word e = e ∙ ap (λ (f : List ℕ). take 193 (unended f t)) k ∙ sym (kept-both [] read t)

  pub last_told : (written : List ℕ) → written ≡ last_line sheet front → written ≡ last_line sheet (unended [] read)
  last_told written e = e ∙ ap (last_line sheet) k ∙ last-kept sheet (unended [] read)

-- What is printed for a sheet, by what its check says.
refusal_told : (sheet input : List ℕ) (r : Refusal) → by_sheet (sheet_check sheet) ≡ Err r → refused_text (numbers_of r) ≡ printed sheet input
unfolding printed
refusal_told sheet input r e = sym (ap (λ (i : Result (Unit {0}) Refusal). said_or i (lines_of sheet [] input ++ last_line sheet (unended [] input))) e)

lines_told : (sheet input : List ℕ) → by_sheet (sheet_check sheet) ≡ Ok tt → lines_of sheet [] input ++ last_line sheet (unended [] input) ≡ printed sheet input
unfolding printed
lines_told sheet input e = sym (ap (λ (i : Result (Unit {0}) Refusal). said_or i (lines_of sheet [] input ++ last_line sheet (unended [] input))) e)

pub refusal_read : {T E : Type 0} (r : Result T E) (left old new : Option (List ℕ)) (sheet : List ℕ) (refusal : Refusal) → by_sheet (sheet_check sheet) ≡ Err refusal
    → OnOk r (Appends old new (refused_text (numbers_of refusal))) → OnOk r ((l : List ℕ) × Consumes left left l × Appends old new (printed sheet l))
refusal_read (Ok x) left old new sheet refusal e a = ([], read_none left, rw (sym (refusal_told sheet [] refusal e)) a)
refusal_read (Err x) left old new sheet refusal e a = tt

pub accepted_read : {T E : Type 0} (r : Result T E) (left rest old new : Option (List ℕ)) (sheet : List ℕ) → by_sheet (sheet_check sheet) ≡ Ok tt
    → OnOk r ((l : List ℕ) × Consumes left rest l × Appends old new (lines_of sheet [] l ++ last_line sheet (unended [] l)))
    → OnOk r ((l : List ℕ) × Consumes left rest l × Appends old new (printed sheet l))
accepted_read (Ok x) left rest old new sheet e p = (p.0, p.1, rw (sym (lines_told sheet p.0 e)) p.2)
accepted_read (Err x) left rest old new sheet e p = tt

-- how long the line of a refusal is
number_line : (n : ℕ) → n < 100 → length (refused_text (n ∷ [])) ≤ 64
unfolding refused_text
number_line n h = let d = count-size n h in simp length-append (omega arith)

place_line : (n at : ℕ) → n < 100 → at < 65536 → length (refused_text (n ∷ at ∷ [])) ≤ 64
unfolding refused_text
place_line n at h k = let d = count-size n h in let e = number_size at (omega arith) in simp length-append (omega arith)

pub refusal_line : (r : Refusal) → Placed r → length (refused_text (numbers_of r)) ≤ 64
refusal_line refusals.WordTooLong p = number_line 1 (omega arith)
refusal_line refusals.WordNotUtf8 p = number_line 2 (omega arith)
refusal_line refusals.WordForbidden p = number_line 3 (omega arith)
refusal_line refusals.SheetTooLong p = number_line 4 (omega arith)
refusal_line (refusals.SheetNoForm at) p = place_line 5 at (omega arith) p.0
refusal_line (refusals.SheetNotAbove at) p = place_line 6 at (omega arith) p.0
refusal_line refusals.TooManyReadings p = number_line 7 (omega arith)
refusal_line refusals.OutputTooShort p = number_line 8 (omega arith)
refusal_line refusals.TextTooLong p = number_line 9 (omega arith)
refusal_line refusals.TextNotUtf8 p = number_line 2 (omega arith)
refusal_line refusals.ListTooShort p = number_line 10 (omega arith)
refusal_line refusals.NoSingleForm p = number_line 11 (omega arith)
refusal_line refusals.NothingToWithdraw p = number_line 12 (omega arith)
refusal_line refusals.NoRoom p = number_line 13 (omega arith)

-- the place of a sheet's refusal lies in it
abbrev PlacedIn : Result (Unit {0}) Refusal → Type 0
PlacedIn (Ok _) = Unit {0}
PlacedIn (Err r) = Placed r

pub sheet_placed : (s : List ℕ) (r : Refusal) → by_sheet (sheet_check s) ≡ Err r → Placed r
sheet_placed s r e = subst PlacedIn e (go (sheet_check s) (fault-inside s))
  where
    go : (x : Result (Unit {0}) SheetFault) → Inside sheet_limit x → PlacedIn (by_sheet x)
    go (Ok _) i = tt
    go (Err sheets.TooLong) i = tt
    go (Err (sheets.NoForm at)) i = (i, tt)
    go (Err (sheets.NotAbove at)) i = (i, tt)
