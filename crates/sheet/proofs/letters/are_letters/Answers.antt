-- `sheet::letters::are_letters` meets its contract: without h nothing but w stands, with it e needs p and at most a tag is left. Assumes
-- nothing.
use Prim.Native.Nat.{ℕ, ◌-◌}
use native.Mathlib.Omega.{arith}
use borrow.Author.Tests.{lt-ltb, le-ltb}
use mathlib.Core.Path.{◌≡◌, sym, ap, ◌∙◌}
use mathlib.Core.Bool.{true}
use mathlib.Core.List.{List}
use lib.ListN.{length, drop, length-drop}
use lib.Dec.{eqb, ltb}
use Rattle.sheet.specs.Letters.{has, past, after_flags, closes}
use Rattle.sheet.proofs.Places.{to_r, to_p, to_e}
use Rattle.sheet.proofs.Kept.{all_read, neither, alone, with_head, not_past, without_p}
use Rattle.sheet.proofs.letters.are_letters.Goals as goal
use Rattle.sheet.proofs.letters.are_letters.Lts.View.{up-After-skip-h}
use Rattle.sheet.proofs.letters.are_letters.Goals.{After-skip-h, After-skip-past_e, After-closes_at-closed}

-- whether w stands, and h behind it
module _ (c : After-skip-h) where
  has_w : has 0x77 c.args.v.now ≡ ltb 0 c.skip-w.result
  has_w = sym c.skip-w.ensures.1

  has_h : has 0x68 (past 0x77 c.args.v.now) ≡ ltb c.skip-w.result c.skip-h.result
  has_h = ap (has 0x68) (sym c.skip-w.ensures.0) ∙ sym c.skip-h.ensures.1

-- whether p stands behind these and v, and e behind it; and what is left
module _ (c : After-skip-past_e) where
  abbrev v : List ℕ
  v = c.args.v.now

  abbrev x : List ℕ
  x = past 0x68 (past 0x77 v)

  head_stands : has 0x68 (past 0x77 v) ≡ true
  head_stands = has_h (up-After-skip-h _ _ _ c.before.before.before.before.before) ∙ lt-ltb _ _ (let h = c.skip-h.ensures.2 in let n = c.if-h-w.false in omega arith)

  has_p : has 0x70 (past 0x76 x) ≡ ltb c.skip-past_v.result c.skip-past_p.result
  has_p =
      ap (has 0x70) (sym (to_r v c.skip-w.result c.skip-h.result c.skip-past_v.result c.skip-past_p.result c.skip-past_e.result
      c.skip-w.ensures.0 c.skip-h.ensures.0 c.skip-past_v.ensures.0 c.skip-past_p.ensures.0 c.skip-past_e.ensures.0))
      ∙ sym c.skip-past_p.ensures.1

  has_e : has 0x65 (past 0x70 (past 0x76 x)) ≡ ltb c.skip-past_p.result c.skip-past_e.result
  has_e =
      ap (has 0x65) (sym (to_p v c.skip-w.result c.skip-h.result c.skip-past_v.result c.skip-past_p.result c.skip-past_e.result
      c.skip-w.ensures.0 c.skip-h.ensures.0 c.skip-past_v.ensures.0 c.skip-past_p.ensures.0 c.skip-past_e.ensures.0))
      ∙ sym c.skip-past_e.ensures.1

  left_over : drop c.skip-past_e.result v ≡ after_flags v
  left_over =
      to_e v c.skip-w.result c.skip-h.result c.skip-past_v.result c.skip-past_p.result c.skip-past_e.result
      c.skip-w.ensures.0 c.skip-h.ensures.0 c.skip-past_v.ensures.0 c.skip-past_p.ensures.0 c.skip-past_e.ensures.0

pub returns-else-w-gt0 : goal.returns-else-w-gt0
returns-else-w-gt0 c =
    let z = le-ltb 0 c.skip-w.result (omega arith) in
    z ∙ neither c.args.v.now (has_h (goal.at.returns-else-w-gt0 c).After-skip-h ∙ le-ltb _ _ (omega (arith, c.if-h-w.true))) (has_w (goal.at.returns-else-w-gt0 c).After-skip-h ∙ z)

pub returns-then-w-gt0 : goal.returns-then-w-gt0
returns-then-w-gt0 c =
    let w = c.skip-w.result in
    let l = c.skip-w.ensures.3 in
    let n : length c.args.v.now - w ≡ length (past 0x77 c.args.v.now) = sym (length-drop w c.args.v.now) ∙ ap length c.skip-w.ensures.0 in
    all_read c.args.v.now w l ∙ ap (λ (k : ℕ). eqb k 0) n
    ∙ alone c.args.v.now (has_h (goal.at.returns-then-w-gt0 c).After-skip-h ∙ le-ltb _ _ (omega (arith, c.if-h-w.true))) (has_w (goal.at.returns-then-w-gt0 c).After-skip-h ∙ lt-ltb 0 w c.if-w-gt0.true)

-- that nothing is left but a tag, or that more is
closed_is : (c : After-closes_at-closed) → drop c.skip-past_e.result c.args.v.now ≡ after_flags c.args.v.now → closes (after_flags c.args.v.now) ≡ c.closes_at-closed.result
closed_is c e = ap closes (sym e) ∙ sym c.closes_at-closed.ensures

pub returns-then-past_v-past_p : goal.returns-then-past_v-past_p
returns-then-past_v-past_p c =
    let d = (goal.at.returns-then-past_v-past_p c).After-skip-past_e in
    let t = lt-ltb c.skip-past_v.result c.skip-past_p.result c.if-past_v-past_p.true in
    let k = closed_is (goal.at.returns-then-past_v-past_p c).After-closes_at-closed (left_over d) ∙ c.if-closed.true in
    let p = has_p d ∙ t in
    t ∙ sym (with_head c.args.v.now (head_stands d) ∙ rw (k, p))

pub returns-else-past_v-past_p : goal.returns-else-past_v-past_p
returns-else-past_v-past_p c =
    let d = (goal.at.returns-else-past_v-past_p c).After-skip-past_e in
    let k = closed_is (goal.at.returns-else-past_v-past_p c).After-closes_at-closed (left_over d) ∙ c.if-closed.true in
    let p = has_p d ∙ le-ltb _ _ c.if-past_v-past_p.false in
    let e = has_e d in
    not_past c.skip-past_p.result c.skip-past_e.result c.skip-past_e.ensures.2 ∙ sym (with_head c.args.v.now (head_stands d) ∙ without_p _ _ _ _ k p e)

pub returns-else-closed : goal.returns-else-closed
returns-else-closed c =
    let d = (goal.at.returns-else-closed c).After-skip-past_e in
    let k = closed_is (goal.at.returns-else-closed c).After-closes_at-closed (left_over d) ∙ c.if-closed.false in
    c.if-closed.false ∙ sym (with_head c.args.v.now (head_stands d) ∙ rw k)
