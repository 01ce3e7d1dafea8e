-- A line's places in the sheet, and what the reader's step gives at them. The proofs of the step and of the sheet's check cite these.
-- Assumes nothing.
use Prim.Native.Nat.{ℕ, ◌+◌, ◌-◌, ◌≤◌, ◌<◌}
use native.Mathlib.Omega.{arith}
use mathlib.Core.Path.{◌≡◌, refl, sym, ap, subst, ◌∙◌}
use mathlib.Core.Bool.{Bool, true, false}
use mathlib.Core.List.{List}
use lib.ListN.{length, take, drop, length-drop}
use lib.Seq.{drop-drop}
use borrow.Author.Tests.{le-leb, lt-leb}
use Rattle.runs.specs.Runs.{pick, begins_with}
use Rattle.text.specs.Names.{name_run}
use Rattle.sheet.specs.Forms.{Entry, front, entry_of, is_form, is_name}
use Rattle.sheet.specs.Lines.{line_at}
use Rattle.sheet.specs.Steps.{head_with, name_end, value_end, name_read, form_at, form_there, step_at}
use Rattle.std.specs.Prelude.{Option, Some, None, Ok, Err}
use Rattle.sheet.specs.declared.line.LineFault.TheVariants.{NoForm}
use Rattle.sheet.specs.declared.line.Form.{Form}
use Rattle.sheet.specs.declared.line.Cursor.{Cursor}
use Rattle.sheet.proofs.Fronts.{front_length, run_inside}
use Rattle.sheet.proofs.Heads.{letter_is}
use Rattle.sheet.proofs.Forms.{line-fits}
use Rattle.sheet.proofs.Shape.{rest_all}

module _ (s : List ℕ) (at : ℕ) where
  pub at_no_form : is_form (drop at s) ≡ false → None ≡ form_there s at
  unfolding form_there
  at_no_form e = rw e

  -- at the end no form stands
  pub at_end : length s ≤ at → None ≡ form_there s at
  at_end h = by (is_form (drop at s)) refl
    where
      by : (b : Bool) → is_form (drop at s) ≡ b → None ≡ form_there s at
      by true e = absurd (omega (arith, line-fits s at e))
      by false e = at_no_form e

  -- the step itself: the end, no form, or the form
  pub step_end : length s ≤ at → Ok None ≡ step_at s at
  unfolding step_at
  step_end h = rw (le-leb _ _ h)

  pub step_none : at < length s → None ≡ form_there s at → Err NoForm ≡ step_at s at
  unfolding step_at form_there
  step_none h e = rw (lt-leb _ _ h) (by (is_form (drop at s)) e)
    where
      by : (b : Bool) → None ≡ pick b (Some (form_at s at)) None → Err NoForm ≡ pick b (Ok (Some (form_at s at))) (Err NoForm)
      by true e = let z : ◌≡◌ {A = ℕ} 0 1 = cc in absurd (omega arith)
      by false e = refl

  pub step_some : (f : Form Cursor) → at < length s → Some f ≡ form_there s at → Ok (Some f) ≡ step_at s at
  unfolding step_at form_there
  step_some f h e = rw (lt-leb _ _ h) (by (is_form (drop at s)) e)
    where
      by : (b : Bool) → Some f ≡ pick b (Some (form_at s at)) None → Ok (Some f) ≡ pick b (Ok (Some (form_at s at))) (Err NoForm)
      by true e = ap (λ (o : Option (Form Cursor)). Ok o) e
      by false e = let z : ◌≡◌ {A = ℕ} 0 1 = cc in absurd (omega arith)

  -- the first name ends at e, and the value at f
  module _ (e f : ℕ) (pe : e ≡ at + 3 + name_run (drop (at + 3) s)) (pf : f ≡ e + 2 + name_run (drop (e + 2) s)) where
    third : drop 3 (drop at s) ≡ drop (at + 3) s
    third = drop-drop 3 at s

    pub name_is : (line_at s at).name ≡ take (e - (at + 3)) (drop (at + 3) s)
    unfolding entry_of
    name_is =
        let n : name_run (drop (at + 3) s) ≡ e - (at + 3) = omega arith in
        rw (third, n)

    pub to_name_end : drop (name_run (drop 3 (drop at s))) (drop 3 (drop at s)) ≡ drop e s
    to_name_end = rw (third, drop-drop (name_run (drop (at + 3) s)) (at + 3) s, pe)

    to_value : drop 2 (drop (name_run (drop 3 (drop at s))) (drop 3 (drop at s))) ≡ drop (e + 2) s
    to_value = ap (drop 2) to_name_end ∙ drop-drop 2 e s

    pub value_is : (line_at s at).value ≡ take (f - (e + 2)) (drop (e + 2) s)
    unfolding entry_of
    value_is =
        let n : name_run (drop (e + 2) s) ≡ f - (e + 2) = omega arith in
        ap front to_value ∙ rw n

    pub to_value_end : drop (name_run (drop 2 (drop (name_run (drop 3 (drop at s))) (drop 3 (drop at s))))) (drop 2 (drop (name_run (drop 3 (drop at s))) (drop 3 (drop at s)))) ≡ drop f s
    to_value_end = ap (λ (x : List ℕ). drop (name_run x) x) to_value ∙ rw (drop-drop (name_run (drop (e + 2) s)) (e + 2) s, pf)

    pub name_end_is : name_end s at ≡ e
    unfolding entry_of
    name_end_is =
        let n : length (line_at s at).name ≡ name_run (drop (at + 3) s) = front_length (drop 3 (drop at s)) ∙ ap name_run third in
        omega arith

    pub value_end_is : value_end s at ≡ f
    unfolding entry_of
    value_end_is =
        let n : length (line_at s at).value ≡ name_run (drop (e + 2) s) = ap (λ (x : List ℕ). length (front x)) to_value ∙ front_length (drop (e + 2) s) in
        let m = name_end_is in
        omega arith

    pub at_form : (l : ℕ) → (line_at s at).letter ≡ l → is_form (drop at s) ≡ true → Some (record { letter = l; name_end = e; value_end = f; next = record { at = f + 3 } }) ≡ form_there s at
    unfolding form_there
    at_form l p q = rw (q, sym value_end_is, sym name_end_is, sym p)

  pub name_good : is_name (front (drop (at + 3) s)) ≡ is_name (line_at s at).name
  unfolding entry_of
  name_good = ap (λ (x : List ℕ). is_name (front x)) (sym (drop-drop 3 at s))

  pub letter_at : (l : ℕ) → begins_with (head_with l) (drop at s) ≡ true → (line_at s at).letter ≡ l
  unfolding entry_of
  letter_at l h = letter_is (drop at s) l h

-- what the name's length tells: that it is where the bytes stop that a name may hold, inside the sheet; or that there is no name
abbrev pub Ending : List ℕ → ℕ → Option ℕ → Type 0
Ending s at None = is_name (front (drop at s)) ≡ false
Ending s at (Some n) = (at + n ≡ at + name_run (drop at s)) × (at + n ≤ length s) × (is_name (front (drop at s)) ≡ true)

pub ending : (s : List ℕ) (at : ℕ) → at ≤ length s → (r : Option ℕ) → r ≡ name_read (take (length s - at) (drop at s)) → Ending s at r
unfolding name_read
ending s at h r q = subst (Ending s at) (sym (q ∙ ap name_read (rest_all s at))) (by (is_name (front (drop at s))) refl)
  where
    by : (b : Bool) → is_name (front (drop at s)) ≡ b → Ending s at (pick b (Some (name_run (drop at s))) None)
    by true e = (refl, (let n = run_inside (drop at s) in omega (arith, length-drop at s)), e)
    by false e = e

-- where the bytes stop that a name may hold
pub stopping : (s : List ℕ) (at n : ℕ) → at ≤ length s → n ≡ name_run (take (length s - at) (drop at s)) → (at + n ≡ at + name_run (drop at s)) × (at + n ≤ length s)
stopping s at n h q =
    let e = q ∙ ap name_run (rest_all s at) in
    let k = run_inside (drop at s) in
    (omega arith, omega (arith, length-drop at s))

-- an entry is its parts
pub same_entry : (e : Entry) (l : ℕ) (n v : List ℕ) → e.letter ≡ l → e.name ≡ n → e.value ≡ v → e ≡ record { letter = l; name = n; value = v }
same_entry e l n v p q r = parts p q r
  where
    parts : {l l' : ℕ} {n n' v v' : List ℕ} → l ≡ l' → n ≡ n' → v ≡ v'
        → ◌≡◌ {A = Entry} (record { letter = l; name = n; value = v }) (record { letter = l'; name = n'; value = v' })
    parts p q r = cc
