-- `lines::check_lines` meets its contract: all lines are judged as those from the walk's place on; the stored starts, and those of the
-- lines to come, are the starts of all lines. Assumes nothing.
use Prim.Native.Nat.{ℕ, ◌<◌, ◌≤◌}
use native.Mathlib.Omega.{arith}
use mathlib.Core.Path.{◌≡◌, refl, sym, ap, subst, ◌∙◌}
use mathlib.Core.List.{List, ◌∷◌, ◌++◌, append-nil}
use lib.ListN.{length, take, get_or, length-set}
use lib.Seq.{length-take-le}
use Rattle.sheet.specs.Lines.{starts_of, fault_at, sheet_check}
use Rattle.sheet.specs.Walks.{starts_ahead}
use Rattle.std.proofs.Common.{rules}
use Rattle.std.proofs.lemmas.Result.{err_from_is_err_and}
use Rattle.sheet.specs.declared.line.LineFault.{LineFault}
use Rattle.sheet.specs.declared.line.LineFault.TheVariants as line
use Rattle.sheet.proofs.Walks.{Turn, Formed, turn, check_long, check_walk}
use Rattle.lookup.specs.Starts.{Room}
use Rattle.lookup.specs.Stored.{Counted, stored_in, said_of, lines_of, Stored}
use Rattle.lookup.specs.declared.lines.Faulty.{Faulty}
use Rattle.std.specs.Prelude.{Result, Ok, Err, MatchResult, IsErrAnd}
use Rattle.sheet.specs.declared.check.SheetFault.{SheetFault}
use Rattle.sheet.specs.declared.check.SheetFault.TheVariants.{TooLong}
use Rattle.lookup.proofs.Count.{stored-front, stored-behind, stored_far, line_next}
use Rattle.lookup.proofs.lines.check_lines.Goals as goal
use Rattle.lookup.proofs.lines.check_lines.Goals.{At-loop-form, In-Some, In_ok-form}

-- what was said is v, with so many lines stored
told : (s before after : List ℕ) (v : Result (Unit {0}) SheetFault) (r : Result ℕ Faulty) → v ≡ sheet_check s → said_of r ≡ v →
    Counted s v (lines_of r) → after ≡ stored_in s (lines_of r) before → Stored s before after r
told s before after v r e f k o = record {
  said = f ∙ e;
  lines = subst (λ (x : Result (Unit {0}) SheetFault). Counted s x (lines_of r)) (sym f) k;
  stored = o;
}

-- the faulty line's number and place, and how many lines stand before it
abbrev faulty : LineFault → ℕ → ℕ → Faulty
faulty e at n = record { fault = fault_at e at; lines = n }

-- what `map_err` makes of a line's fault, and that it leaves all else
module _ {A : Type 0} (at n : ℕ) (r : Result A LineFault) (Q : LineFault → Faulty → Type 0) (m : Result A Faulty) (k : MatchResult r (λ x. m ≡ Ok x) (λ e. IsErrAnd m (Q e))) where
  mapped : ((e : LineFault) (d : Faulty) → Q e d → d ≡ faulty e at n) → (d : Faulty) → m ≡ Err d → (e : LineFault) × (r ≡ Err e) × (d ≡ faulty e at n)
  mapped means d q = by r k
    where
      by : (r' : Result A LineFault) → MatchResult r' (λ x. m ≡ Ok x) (λ e. IsErrAnd m (Q e)) → (e : LineFault) × (r' ≡ Err e) × (d ≡ faulty e at n)
      by (Ok x) h = let z : ◌≡◌ {A = ℕ} 0 1 = cc in absurd (omega arith)
      by (Err e) h = let w : IsErrAnd {T = A} (Err d) (Q e) = subst (λ y. IsErrAnd y (Q e)) q h in (e, refl, means e d w)

  left : (x : A) → m ≡ Ok x → r ≡ Ok x
  left x q = by r k
    where
      by : (r' : Result A LineFault) → MatchResult r' (λ x. m ≡ Ok x) (λ e. IsErrAnd m (Q e)) → r' ≡ Ok x
      by (Ok y) h = let e : ◌≡◌ {A = A} y x = cc in ap (λ (z : A). Ok z) e
      by (Err e) h = absurd (subst (λ y. IsErrAnd y (Q e)) q h)

pub returns-then-s-gt-SHEET_BYTES : goal.returns-then-s-gt-SHEET_BYTES
returns-then-s-gt-SHEET_BYTES c = told c.args.s.now _ _ (Err TooLong) _ (check_long _ c.if-s-gt-SHEET_BYTES.true) refl refl refl

pub loop-form-init : goal.loop-form-init
loop-form-init c = (omega arith, tt, check_walk _ c.if-s-gt-SHEET_BYTES.false, refl, omega arith, refl, refl)

pub step-requires : goal.step-requires
step-requires c = c.loop-form.invariant.1

-- so far there are no more lines than there is room for
few : (d : At-loop-form) → d.loop-form.n ≤ length d.loop-form.out
unfolding Room
few d = let b = d in omega (arith, d.loop-form.invariant.0, d.loop-form.invariant.3, d.loop-form.invariant.4, b.requires d.if-s-gt-SHEET_BYTES.false)

-- what is stored so far
stored : (d : At-loop-form) → d.loop-form.out ≡ stored_in d.args.s.now d.loop-form.n d.args.out.now
stored d = stored_far (starts_of d.args.s.now) d.loop-form.out d.args.out.now d.loop-form.n (few d) _ d.loop-form.invariant.5 d.loop-form.invariant.6

-- the line to come, where one does, is number n
line_at : (d : At-loop-form) (at : ℕ) (rest : List ℕ) → starts_ahead d.args.s.now d.loop-form.walk ≡ at ∷ rest →
    (d.loop-form.n < length (starts_of d.args.s.now)) × (get_or (starts_of d.args.s.now) d.loop-form.n 0 ≡ at)
line_at d at rest e =
    line_next (starts_of d.args.s.now) d.loop-form.out d.args.out.now d.loop-form.n (few d) at rest
    (d.loop-form.invariant.5 ∙ ap (λ (x : List ℕ). take d.loop-form.n d.loop-form.out ++ x) e)

-- what the step gave where it refused nothing
given : (c : In_ok-form) → Turn c.args.s.now c.loop-form.walk (Ok c.in_ok-form.field-0)
given c = turn c.args.s.now c.loop-form.walk _ (sym (left c.loop-form.walk.at c.loop-form.n c.step.result _ c.map_err.result c.map_err.ensures.cases _ c.in_ok-form.was) ∙ c.step.ensures)

pub returns : goal.returns
returns c =
    let e = subst (λ o. Turn c.args.s.now c.loop-form.walk (Ok o)) c.in_default.is (given (goal.at.returns c).In_ok-form) in
    let p : starts_of c.args.s.now ≡ take c.loop-form.n c.loop-form.out = c.loop-form.invariant.5 ∙ ap (λ (l : List ℕ). take c.loop-form.n c.loop-form.out ++ l) e.starts ∙ append-nil _ in
    let n : c.loop-form.n ≡ length (starts_of c.args.s.now) = sym (ap length p ∙ length-take-le c.loop-form.n c.loop-form.out (few (goal.at.returns c).At-loop-form)) in
    told c.args.s.now _ _ (Ok tt) _ (sym (c.loop-form.invariant.2 ∙ e.said)) refl n (stored (goal.at.returns c).At-loop-form)

pub shape_of-out : goal.shape_of-out
shape_of-out c = c.loop-form.invariant.3

pub shape_of-out-in_err-form : goal.shape_of-out-in_err-form
shape_of-out-in_err-form c = c.loop-form.invariant.3

-- a faulty line's number and place
at_fault : (d : At-loop-form) (fault : LineFault) (at : ℕ) (rest : List ℕ) → starts_ahead d.args.s.now d.loop-form.walk ≡ at ∷ rest → Counted d.args.s.now (Err (fault_at fault at)) d.loop-form.n
at_fault d line.NoForm at rest e = line_at d at rest e
at_fault d line.NotAbove at rest e = line_at d at rest e

pub returns-in_err-form : goal.returns-in_err-form
returns-in_err-form c =
    let p = err_from_is_err_and c.from_residual.result c.from_residual.ensures.1 in
    let m = mapped c.loop-form.walk.at c.loop-form.n c.step.result _ c.map_err.result c.map_err.ensures.cases (λ e d k. search rules) _ c.in_err-form.was in
    let e = turn c.args.s.now c.loop-form.walk (Err m.0) (sym m.1 ∙ c.step.ensures) in
    let d = (goal.at.returns-in_err-form c).At-loop-form in
    subst (λ (r : Result ℕ Faulty). Stored c.args.s.now c.args.out.now c.loop-form.out r) (sym (p.1 ∙ ap (λ (f : Faulty). Err f) (p.2 ∙ m.2)))
    (told c.args.s.now _ _ (Err (fault_at m.0 c.loop-form.walk.at)) (Err (faulty m.0 c.loop-form.walk.at c.loop-form.n)) (sym (c.loop-form.invariant.2 ∙ e.said)) refl (at_fault d m.0 _ _ e.starts) (stored d))

-- the form that was reached
form : (c : In-Some) → Turn c.args.s.now c.loop-form.walk (Ok c.in_ok-form.field-0) → Formed c.args.s.now c.loop-form.walk c.in-Some.form
form c t = subst (λ o. Turn c.args.s.now c.loop-form.walk (Ok o)) c.in-Some.is t

-- a line has at least so many bytes that there is room for its start
more : (c : In-Some) → Turn c.args.s.now c.loop-form.walk (Ok c.in_ok-form.field-0) → c.loop-form.n < length c.loop-form.out
unfolding Room
more c t =
    omega (arith, (form c t).longer, (form c t).fits, c.loop-form.invariant.3, c.loop-form.invariant.4, c.requires c.if-s-gt-SHEET_BYTES.false)

pub overflow_cast-out : goal.overflow_cast-out
overflow_cast-out c = omega (arith, (form (goal.at.overflow_cast-out c).In-Some (given (goal.at.overflow_cast-out c).In_ok-form)).inside, c.if-s-gt-SHEET_BYTES.false)

pub offset_bounds-out-n : goal.offset_bounds-out-n
offset_bounds-out-n c = omega (arith, more (goal.at.offset_bounds-out-n c).In-Some (given (goal.at.offset_bounds-out-n c).In_ok-form))

pub bounds-out-n : goal.bounds-out-n
bounds-out-n c = more (goal.at.bounds-out-n c).In-Some (given (goal.at.bounds-out-n c).In_ok-form)

pub overflow_add-n : goal.overflow_add-n
overflow_add-n c = omega (arith, more (goal.at.overflow_add-n c).In-Some (given (goal.at.overflow_add-n c).In_ok-form))

pub loop-form-smaller : goal.loop-form-smaller
loop-form-smaller c = let f = form (goal.at.loop-form-smaller c).In-Some (given (goal.at.loop-form-smaller c).In_ok-form) in omega (arith, f.longer, f.fits)

pub loop-form-preserved : goal.loop-form-preserved
loop-form-preserved c =
    let f = form (goal.at.loop-form-preserved c).In-Some (given (goal.at.loop-form-preserved c).In_ok-form) in (
      f.fits,
      f.standing,
      c.loop-form.invariant.2 ∙ f.said,
      simp length-set c.loop-form.invariant.3,
      omega (arith, f.longer, c.loop-form.invariant.4),
      c.loop-form.invariant.5 ∙ ap (λ (x : List ℕ). take c.loop-form.n c.loop-form.out ++ x) f.starts
          ∙ sym (stored-front c.loop-form.out c.args.out.now c.loop-form.n c.loop-form.walk.at (more (goal.at.loop-form-preserved c).In-Some (given (goal.at.loop-form-preserved c).In_ok-form)) _),
      stored-behind c.loop-form.out c.args.out.now c.loop-form.n c.loop-form.walk.at (more (goal.at.loop-form-preserved c).In-Some (given (goal.at.loop-form-preserved c).In_ok-form)) c.loop-form.invariant.6,
    )
