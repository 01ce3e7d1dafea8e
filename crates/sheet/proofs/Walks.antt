-- One step of the walk over the lines: what it reaches, and what is then to come. Every loop over the lines rests on `turn`. Assumes nothing.
use Rattle.std.specs.Prelude.{Err, IsErrAnd, MatchResult, None, Ok, Option, Result, Some}
use Prim.Native.Nat.{ℕ, suc, ◌+◌, ◌-◌, ◌<◌, ◌≤◌}
use native.Mathlib.Omega.{arith}
use mathlib.Core.Path.{◌≡◌, refl, sym, ap, subst, ◌∙◌}
use mathlib.Core.Bool.{Bool, true, false}
use mathlib.Core.List.{List, [], ◌∷◌}
use lib.ListN.{length, take, drop, get_or}
use lib.Dec.{eqb, leb}
use borrow.Author.Tests.{leb-true, leb-false, le-leb, lt-leb, lt-ltb, le-ltb}
use Rattle.runs.specs.Runs.{pick, cmp, is_less}
use Rattle.sheet.specs.Limits.{sheet_limit, shortest_line}
use Rattle.sheet.specs.Forms.{is_form, key, key_of}
use Rattle.sheet.specs.Lines.{fault_at, starts_from, line_at, judged, sheet_check}
use Rattle.sheet.specs.Steps.{name_end, form_at, step_at}
use Rattle.sheet.specs.declared.line.Cursor.{Cursor}
use Rattle.sheet.specs.Walks.{key_before, Standing, starts_ahead, form_reached, reached}
use Rattle.sheet.specs.declared.walk.Walk.{Walk}
use Rattle.sheet.specs.declared.line.Form.{Form}
use Rattle.sheet.specs.declared.line.LineFault.{LineFault}
use Rattle.sheet.specs.declared.line.LineFault.TheVariants.{NoForm, NotAbove}
use Rattle.sheet.specs.declared.check.SheetFault.{SheetFault}
use Rattle.sheet.specs.declared.check.SheetFault.TheVariants.{TooLong, NotAbove as NotAboveAt, NoForm as NoFormAt}
use Rattle.sheet.proofs.Forms.{line-fits, line_long, name-text}
use Rattle.sheet.proofs.Lines.{no_lines, some-line, next_line, step_told}

-- what is said of the lines from the walk's place on
abbrev pub judged_ahead : List ℕ → Walk → Result (Unit {0}) SheetFault
judged_ahead s w = judged s (key_before s w.last) (starts_ahead s w)

-- a form is reached: its places, the walk from behind it, and that the lines to come are this one and those from behind it on
pub record Formed (s : List ℕ) (w : Walk) (r : Form Walk) : Type 0 where
  pub inside : w.at < length s
  pub form : is_form (drop w.at s) ≡ true
  pub read : r ≡ form_reached s w
  pub longer : w.at + shortest_line ≤ r.next.at
  pub fits : r.next.at ≤ length s
  pub standing : Standing s r.next.last
  pub starts : starts_ahead s w ≡ w.at ∷ starts_ahead s r.next
  pub said : judged_ahead s w ≡ judged_ahead s r.next

-- a faulty line is reached: nothing behind it is looked at
pub record Faulty (s : List ℕ) (w : Walk) (x : Result (Unit {0}) SheetFault) : Type 0 where
  pub inside : w.at < length s
  pub starts : starts_ahead s w ≡ w.at ∷ starts_from (eqb (get_or s w.at 0) 0x0A) (suc w.at) (drop (suc w.at) s)
  pub said : judged_ahead s w ≡ x

-- the end is reached
pub record Ended (s : List ℕ) (w : Walk) : Type 0 where
  pub starts : starts_ahead s w ≡ []
  pub said : judged_ahead s w ≡ Ok tt

abbrev pub Turn : List ℕ → Walk → Result (Option (Form Walk)) LineFault → Type 0
Turn s w (Ok None) = Ended s w
Turn s w (Err fault) = Faulty s w (Err (fault_at fault w.at))
Turn s w (Ok (Some r)) = Formed s w r

-- one line judged
module _ (s last : List ℕ) (at : ℕ) (rest : List ℕ) where
  judged-no-form : is_form (drop at s) ≡ false → judged s last (at ∷ rest) ≡ Err (NoFormAt at)
  unfolding judged
  judged-no-form e = rw e

  judged-not-above : is_form (drop at s) ≡ true → is_less (cmp last (key (line_at s at))) ≡ false → judged s last (at ∷ rest) ≡ Err (NotAboveAt at)
  unfolding judged
  judged-not-above e f = rw (e, f)

  pub judged_on : is_form (drop at s) ≡ true → is_less (cmp last (key (line_at s at))) ≡ true → judged s last (at ∷ rest) ≡ judged s (key (line_at s at)) rest
  unfolding judged
  judged_on e f = rw (e, f)

pub judged-end : (s last : List ℕ) → judged s last [] ≡ Ok tt
unfolding judged
judged-end s last = refl

module _ (s : List ℕ) (w : Walk) where
  -- the law of the step
  pub turn : (r : Result (Option (Form Walk)) LineFault) → r ≡ reached s w → Turn s w r
  unfolding reached
  turn r q =
      subst (Turn s w) (sym q)
      (by (leb (length s) w.at) (is_form (drop w.at s)) (is_less (cmp (key_before s w.last) (key (line_at s w.at)))) refl refl refl)
    where
      faulty : (x : Result (Unit {0}) SheetFault) → w.at < length s → ((rest : List ℕ) → judged s (key_before s w.last) (w.at ∷ rest) ≡ x) → Faulty s w x
      faulty x h k =
          let l = some-line s w.at h in
          record { inside = h; starts = l; said = ap (judged s (key_before s w.last)) l ∙ k _ }

      by : (b c d : Bool) → leb (length s) w.at ≡ b → is_form (drop w.at s) ≡ c → is_less (cmp (key_before s w.last) (key (line_at s w.at))) ≡ d
          → Turn s w (pick b (Ok None) (pick c (pick d (Ok (Some (form_reached s w))) (Err NotAbove)) (Err NoForm)))
      by true c d p q r =
          let l = no_lines s w.at (leb-true _ _ p) in
          record { starts = l; said = ap (judged s (key_before s w.last)) l ∙ judged-end s _ }
      by false true true p q r =
          let l = next_line s w.at q in
          record {
            inside = leb-false _ _ p;
            form = q;
            read = refl;
            longer = line_long s w.at q;
            fits = line-fits s w.at q;
            standing = q;
            starts = l;
            said = ap (judged s (key_before s w.last)) l ∙ judged_on s _ w.at _ q r;
          }
      by false true false p q r = faulty (Err (NotAboveAt w.at)) (leb-false _ _ p) (λ rest. judged-not-above s _ w.at rest q r)
      by false false d p q r = faulty (Err (NoFormAt w.at)) (leb-false _ _ p) (λ rest. judged-no-form s _ w.at rest q)

-- what a step reaches, test by test
module _ (s : List ℕ) (w : Walk) where
  pub reached-end : length s ≤ w.at → Ok None ≡ reached s w
  unfolding reached
  reached-end h = rw (le-leb _ _ h)

  pub reached-no-form : w.at < length s → is_form (drop w.at s) ≡ false → Err NoForm ≡ reached s w
  unfolding reached
  reached-no-form h e = rw (lt-leb _ _ h, e)

  pub reached-not-above : w.at < length s → is_form (drop w.at s) ≡ true → is_less (cmp (key_before s w.last) (key (line_at s w.at))) ≡ false → Err NotAbove ≡ reached s w
  unfolding reached
  reached-not-above h e f = rw (lt-leb _ _ h, e, f)

  pub reached-form : w.at < length s → is_form (drop w.at s) ≡ true → is_less (cmp (key_before s w.last) (key (line_at s w.at))) ≡ true
      → Ok (Some (form_reached s w)) ≡ reached s w
  unfolding reached
  reached-form h e f = rw (lt-leb _ _ h, e, f)

  -- what the reader refuses the walk refuses
  pub reached_fault : (fault : LineFault) → Err fault ≡ step_at s w.at → Err fault ≡ reached s w
  reached_fault NoForm e = let t = step_told s w.at (Err NoForm) e in reached-no-form t.0 t.1
  reached_fault NotAbove e = absurd (step_told s w.at (Err NotAbove) e)

  -- a form that the reader gave, with the walk from behind it
  abbrev pub going_on : Form Cursor → Form Walk
  going_on r = record { letter = r.letter; name_end = r.name_end; value_end = r.value_end; next = record { at = r.next.at; last = Some w.at } }

  pub goes_on : (r : Form Cursor) → r ≡ form_at s w.at → going_on r ≡ form_reached s w
  goes_on r e = ap going_on e

-- what `map_err` makes of a line's fault, and that it leaves all else
module _ {A : Type 0} (at : ℕ) (r : Result A LineFault) (Q : LineFault → SheetFault → Type 0) (m : Result A SheetFault) (k : MatchResult r (λ x. m ≡ Ok x) (λ e. IsErrAnd m (Q e))) where
  pub faults_mapped : ((e : LineFault) (d : SheetFault) → Q e d → d ≡ fault_at e at) → (d : SheetFault) → m ≡ Err d → (e : LineFault) × (r ≡ Err e) × (d ≡ fault_at e at)
  faults_mapped means d q = by r k
    where
      by : (r' : Result A LineFault) → MatchResult r' (λ x. m ≡ Ok x) (λ e. IsErrAnd m (Q e)) → (e : LineFault) × (r' ≡ Err e) × (d ≡ fault_at e at)
      by (Ok x) h = let z : ◌≡◌ {A = ℕ} 0 1 = cc in absurd (omega arith)
      by (Err e) h = let w : IsErrAnd {T = A} (Err d) (Q e) = subst (λ y. IsErrAnd y (Q e)) q h in (e, refl, means e d w)

  pub ok_left : (x : A) → m ≡ Ok x → r ≡ Ok x
  ok_left x q = by r k
    where
      by : (r' : Result A LineFault) → MatchResult r' (λ x. m ≡ Ok x) (λ e. IsErrAnd m (Q e)) → r' ≡ Ok x
      by (Ok y) h = let e : ◌≡◌ {A = A} y x = cc in ap (λ (z : A). Ok z) e
      by (Err e) h = absurd (subst (λ y. IsErrAnd y (Q e)) q h)

-- the key of the form that the reader tells, from its letter and the bytes of its name
pub key-told : (s : List ℕ) (at : ℕ) → is_form (drop at s) ≡ true → (l n : ℕ) → l ≡ (line_at s at).letter → n ≡ name_end s at
    → key_of l (take (n - (at + 3)) (drop (at + 3) s)) ≡ key (line_at s at)
key-told s at h l n p q =
    let z : n - (at + 3) ≡ length (line_at s at).name = omega arith in
    ap (λ (k : ℕ). key_of l (take k (drop (at + 3) s))) z ∙ ap (key_of l) (name-text s at h) ∙ ap (λ (x : ℕ). key_of x (line_at s at).name) p

-- where the walk begins
abbrev pub at_first : Walk
at_first = record { at = 0; last = None }

module _ (s : List ℕ) where
  pub check_long : sheet_limit < length s → (Err TooLong) ≡ sheet_check s
  unfolding sheet_check
  check_long h = rw (lt-ltb _ _ h)

  pub check_walk : length s ≤ sheet_limit → sheet_check s ≡ judged_ahead s at_first
  unfolding sheet_check
  check_walk h = rw (le-ltb _ _ h)
