-- What holds of the stretches to come, shown stretch by stretch. Every theorem about all stretches rests on `walked`. Assumes nothing.
use Rattle.std.specs.Prelude.{Option, Some, None, Result, Ok, Err}
use Prim.Native.Nat.{ℕ, zero, suc, ◌+◌, ◌<◌, ◌≤◌}
use native.Mathlib.Omega.{arith}
use mathlib.Core.Path.{◌≡◌, refl, sym, ap, subst, ◌∙◌}
use mathlib.Core.Bool.{Bool, true, false}
use mathlib.Core.List.{List}
use lib.ListN.{length, drop}
use lib.Dec.{ltb}
use borrow.Author.Tests.{ltb-true, ltb-false}
use Rattle.runs.specs.Runs.{pick, cmp, is_less}
use Rattle.std.specs.declared.cmp.Ordering.{Ordering}
use Rattle.std.specs.declared.cmp.Ordering.TheVariants.{Less, Equal, Greater}
use Rattle.sheet.specs.Forms.{is_form, key}
use Rattle.sheet.specs.Lines.{line_at}
use Rattle.sheet.specs.Steps.{value_end}
use Rattle.sheet.specs.Walks.{key_before, Standing, reached}
use Rattle.sheet.specs.declared.walk.Walk.{Walk}
use Rattle.sheet.specs.declared.line.Form.{Form}
use Rattle.sheet.specs.declared.line.LineFault.{LineFault}
use Rattle.sheet.specs.declared.line.LineFault.TheVariants as step
use Rattle.rescued.specs.declared.walk.Reach.{Reach}
use Rattle.rescued.specs.Stretches.{fate_at}
use Rattle.rescued.specs.Places.{dropped_at, Stepped}
use Rattle.rescued.proofs.Stretched.{fated, at_fault, at_form, at_end}

-- what becomes of a line, told by its form and the last kept one
abbrev pub Meant : List ℕ → Walk → Reach → Option LineFault → Type 0
Meant s w r None =
    (is_form (drop w.at s) ≡ true) × (cmp (key_before s w.last) (key (line_at s w.at)) ≡ Less) × (r.next ≡ record { at = value_end s w.at + 3; last = Some w.at })
Meant s w r (Some step.NoForm) = (is_form (drop w.at s) ≡ false) × (r.next.last ≡ w.last)
Meant s w r (Some step.NotAbove) = (is_form (drop w.at s) ≡ true) × (cmp (key_before s w.last) (key (line_at s w.at)) ≡ Less → ⊥) × (r.next.last ≡ w.last)

less_true : (o : Ordering) → is_less o ≡ true → o ≡ Less
less_true Less e = refl
less_true Equal e = cc
less_true Greater e = cc

module _ (s : List ℕ) where
  abbrev MeantBy : List ℕ → ℕ → Option LineFault → Type 0
  MeantBy last at None = (is_form (drop at s) ≡ true) × (cmp last (key (line_at s at)) ≡ Less)
  MeantBy last at (Some step.NoForm) = is_form (drop at s) ≡ false
  MeantBy last at (Some step.NotAbove) = (is_form (drop at s) ≡ true) × (cmp last (key (line_at s at)) ≡ Less → ⊥)

  meant_by : (last : List ℕ) (at : ℕ) → MeantBy last at (fate_at s last at)
  unfolding fate_at
  meant_by last at = by (is_form (drop at s)) (is_less (cmp last (key (line_at s at)))) refl refl
    where
      by : (b c : Bool) → is_form (drop at s) ≡ b → is_less (cmp last (key (line_at s at))) ≡ c → MeantBy last at (pick b (pick c None (Some step.NotAbove)) (Some step.NoForm))
      by true true p q = (p, less_true _ q)
      by true false p q = (p, λ e. let z : true ≡ false = sym (ap is_less e) ∙ q in let y : ◌≡◌ {A = ℕ} 0 1 = cc in omega arith)
      by false c p q = p

  fate_means : (last : List ℕ) (at : ℕ) (f : Option LineFault) → fate_at s last at ≡ f → MeantBy last at f
  fate_means last at f e = subst (MeantBy last at) e (meant_by last at)

  -- where there is a line, the walk passes it
  stepped : (w : Walk) → w.at < length s → Standing s w.last → (r : Reach) × Stepped s w r × Meant s w r r.fault
  stepped w h z = by (reached s w) refl
    where
      by : (x : Result (Option (Form Walk)) LineFault) → x ≡ reached s w → (r : Reach) × Stepped s w r × Meant s w r r.fault
      by (Ok None) e = absurd (at_end s w h z e)
      by (Err step.NoForm) e =
          (dropped_at s w step.NoForm, at_fault s w h z step.NoForm e, (fate_means (key_before s w.last) w.at (Some step.NoForm) (fated s w (Err step.NoForm) e), refl))
      by (Err step.NotAbove) e =
          let m = fate_means (key_before s w.last) w.at (Some step.NotAbove) (fated s w (Err step.NotAbove) e) in
          (dropped_at s w step.NotAbove, at_fault s w h z step.NotAbove e, (m.0, m.1, refl))
      by (Ok (Some form)) e =
          let f = fated s w (Ok (Some form)) e in
          let m = fate_means (key_before s w.last) w.at None f.0 in
          (record { fault = None; next = form.next }, at_form s w h z form e, (m.0, m.1, f.2))

  module _ (P : Walk → Type 0) (ends : (w : Walk) → length s ≤ w.at → P w)
      (turns : (w : Walk) → w.at < length s → (r : Reach) → Stepped s w r → Meant s w r r.fault → P r.next → P w) where
    from : (k : ℕ) (w : Walk) → length s ≤ w.at + k → Standing s w.last → P w
    from zero w h z = ends w (omega arith)
    from (suc k) w h z = by (ltb w.at (length s)) refl (from k)
      where
        by : (b : Bool) → ltb w.at (length s) ≡ b → ((v : Walk) → length s ≤ v.at + k → Standing s v.last → P v) → P w
        by false e rest = ends w (ltb-false _ _ e)
        by true e rest =
            let l = ltb-true w.at (length s) e in
            let x = stepped w l z in
            let g = x.1.further in
            turns w l x.0 x.1 x.2 (rest x.0.next (omega arith) x.1.standing)

    pub walked : (w : Walk) → Standing s w.last → P w
    walked w z = from (length s) w (omega arith) z
