-- From a form to the line after it, and what a step of the reader tells. The walk over the lines cites these. Assumes nothing.
use Prim.Native.Nat.{ℕ, suc, ◌+◌, ◌<◌, ◌≤◌}
use native.Mathlib.Omega.{arith}
use native.Mathlib.Nat.{add-zero, add-suc, suc-add}
use mathlib.Core.Path.{◌≡◌, refl, sym, ap, subst, ◌∙◌}
use mathlib.Core.Bool.{Bool, true, false}
use mathlib.Core.List.{List, [], ◌∷◌, ◌++◌, append_assoc}
use lib.ListN.{length, drop, get_or, drop_of_length-le}
use lib.Seq.{drop-cons, drop-drop}
use lib.Dec.{eqb, leb}
use borrow.Author.Tests.{ne_eqb, leb-true, leb-false}
use Rattle.runs.specs.Runs.{pick}
use Rattle.text.specs.Names.{forbidden, holds_forbidden}
use Rattle.sheet.specs.Forms.{Entry, written, is_meant, is_form}
use Rattle.sheet.specs.Lines.{starts_from, line_at}
use Rattle.sheet.specs.Steps.{value_end, form_at, step_at}
use Rattle.sheet.specs.declared.line.Cursor.{Cursor}
use Rattle.sheet.specs.declared.line.Form.{Form}
use Rattle.sheet.specs.declared.line.LineFault.{LineFault}
use Rattle.sheet.specs.declared.line.LineFault.TheVariants.{NoForm, NotAbove}
use Rattle.std.specs.Prelude.{Option, Some, None, Result, Ok, Err}
use Rattle.sheet.proofs.Forms.{written-length, form-named, form_meant, name-plain, value-plain, line-bytes}

-- a byte that may stand in a name ends no line
no_feed : (b : ℕ) → forbidden b ≡ false → eqb b 0x0A ≡ false
unfolding forbidden
no_feed b e = ne_eqb b 0x0A (λ q. let z : true ≡ false = subst (λ (x : ℕ). forbidden x ≡ false) q e in let w : ◌≡◌ {A = ℕ} 0 1 = cc in omega arith)

-- a run of such bytes holds no line's start
quiet : (x y : List ℕ) (n : ℕ) → holds_forbidden x ≡ false → starts_from false n (x ++ y) ≡ starts_from false (n + length x) y
unfolding holds_forbidden
quiet [] y n e = rw (add-zero n)
quiet (b ∷ x) y n e = by (forbidden b) refl e (quiet x y (suc n))
  where
    by : (f : Bool) → forbidden b ≡ f → pick f true (holds_forbidden x) ≡ false
        → (holds_forbidden x ≡ false → starts_from false (suc n) (x ++ y) ≡ starts_from false (suc n + length x) y)
        → starts_from false n (b ∷ (x ++ y)) ≡ starts_from false (n + suc (length x)) y
    by true p q k = let z : ◌≡◌ {A = ℕ} 0 1 = cc in absurd (omega arith)
    by false p q k = rw (no_feed b p, add-suc n (length x), sym (suc-add n (length x))) (k q)

-- a form's letter ends no line
meant_no_feed : (e : Entry) → is_meant e ≡ true → eqb e.letter 0x0A ≡ false
unfolding is_meant
meant_no_feed e h = ne_eqb e.letter 0x0A (λ q. let z : false ≡ true = rw q at h in let w : ◌≡◌ {A = ℕ} 0 1 = cc in omega arith)

-- after a written line the next one begins
module _ (e : Entry) (rest : List ℕ) (n : ℕ) (m : is_meant e ≡ true) (p : holds_forbidden e.name ≡ false) (q : holds_forbidden e.value ≡ false) where
  past-line-value : (k : ℕ) → starts_from false k ((e.value ++ (0x29 ∷ 0x29 ∷ 0x0A ∷ [])) ++ rest) ≡ starts_from true (suc (suc (suc (k + length e.value)))) rest
  past-line-value k = rw append_assoc (quiet e.value (0x29 ∷ 0x29 ∷ 0x0A ∷ rest) k q)

  past-line-name : (k : ℕ) → starts_from false k ((e.name ++ (0x20 ∷ 0x28 ∷ (e.value ++ (0x29 ∷ 0x29 ∷ 0x0A ∷ [])))) ++ rest) ≡ starts_from true (suc (suc (suc (suc (suc (k + length e.name)) + length e.value)))) rest
  past-line-name k =
      rw append_assoc
      (quiet e.name (0x20 ∷ 0x28 ∷ ((e.value ++ (0x29 ∷ 0x29 ∷ 0x0A ∷ [])) ++ rest)) k p ∙ past-line-value (suc (suc (k + length e.name))))

  pub written_next : starts_from true n (written e ++ rest) ≡ n ∷ starts_from true (n + length (written e)) rest
  unfolding written
  written_next =
      let at : suc (suc (suc (suc (suc (suc (suc (suc n)) + length e.name)) + length e.value))) ≡ n + length (written e) = rw (written-length e) (omega arith) in
      rw (meant_no_feed e m, past-line-name (suc (suc (suc n))), at)

module _ (s : List ℕ) (at : ℕ) where
  pub no_lines : length s ≤ at → starts_from true at (drop at s) ≡ []
  no_lines h = rw (drop_of_length-le s h)

  -- a line begins at every place at which one is looked for
  pub some-line : at < length s → starts_from true at (drop at s) ≡ at ∷ starts_from (eqb (get_or s at 0) 0x0A) (suc at) (drop (suc at) s)
  some-line h = rw (drop-cons s at 0 h)

  pub next_line : is_form (drop at s) ≡ true → starts_from true at (drop at s) ≡ at ∷ starts_from true (value_end s at + 3) (drop (value_end s at + 3) s)
  next_line h =
      let w = written (line_at s at) in
      let n : at + length w ≡ value_end s at + 3 = rw (written-length (line_at s at)) (omega arith) in
      let r : drop (length w) (drop at s) ≡ drop (value_end s at + 3) s = drop-drop (length w) at s ∙ ap (λ (k : ℕ). drop k s) n in
      ap (starts_from true at) (line-bytes s at h)
      ∙ written_next (line_at s at) (drop (length w) (drop at s)) at (form_meant _ h) (name-plain _ (form-named _ h)) (value-plain (drop at s))
      ∙ rw (r, n)

  -- what a step of the reader tells
  abbrev pub Told : Result (Option (Form Cursor)) LineFault → Type 0
  Told (Ok None) = length s ≤ at
  Told (Err NoForm) = (at < length s) × (is_form (drop at s) ≡ false)
  Told (Err NotAbove) = ⊥
  Told (Ok (Some form)) = (at < length s) × (is_form (drop at s) ≡ true) × (form ≡ form_at s at)

  pub step_told : (line : Result (Option (Form Cursor)) LineFault) → line ≡ step_at s at → Told line
  unfolding step_at
  step_told line q = subst Told (sym q) (by (leb (length s) at) (is_form (drop at s)) refl refl)
    where
      by : (b c : Bool) → leb (length s) at ≡ b → is_form (drop at s) ≡ c
          → Told (pick b (Ok None) (pick c (Ok (Some (form_at s at))) (Err NoForm)))
      by true c p r = leb-true _ _ p
      by false true p r = (leb-false _ _ p, r, refl)
      by false false p r = (leb-false _ _ p, r)
