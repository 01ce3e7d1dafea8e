-- `sheet::line::Cursor::form` meets its contract: at each refusal a part of the form is missing, and at the end none is. Assumes nothing.
use Rattle.std.specs.Prelude.{Some, None}
use Prim.Native.Nat.{ℕ, ◌+◌, ◌-◌, ◌≤◌}
use native.Mathlib.Omega.{arith}
use mathlib.Core.Path.{◌≡◌, refl, sym, ap, subst, ◌∙◌}
use mathlib.Core.Bool.{true}
use lib.ListN.{length, take, drop}
use Rattle.runs.specs.Runs.{begins_with}
use Rattle.text.specs.Names.{name_run, holds_forbidden}
use Rattle.sheet.specs.Forms.{is_meant}
use Rattle.sheet.specs.Lines.{line_at}
use Rattle.sheet.specs.Steps.{head_with, head_of}
use Rattle.sheet.proofs.Fronts.{front-plain}
use Rattle.sheet.proofs.Shape.{begins-room, between, closing, rest_all, shaped, formed, unnamed, unmeant, not-between, not_closed}
use Rattle.sheet.proofs.Heads.{headed, letter_is, headless}
use Rattle.sheet.proofs.Stepped.{at_end, at_no_form, at_form, letter_at, name_good, name_is, value_is, to_name_end, to_value_end, Ending, ending, stopping, same_entry}
use Rattle.sheet.proofs.line.Cursor.form.Goals as goal
use Rattle.sheet.proofs.line.Cursor.form.Goals.{After-begins_with, After-begins_with-2, After-head_at, After-is_meant, After-run_len, In_ok-letter, In_ok-name_len}

pub returns-then-s-at : goal.returns-then-s-at
returns-then-s-at c = at_end c.args.s.now c.args.self.at c.if-s-at.true

-- the letter is that of the head at the place
letter-of : (c : After-head_at) → head_of (drop c.args.self.at c.args.s.now) ≡ c.head_at.result
letter-of c = ap head_of (sym (rest_all c.args.s.now c.args.self.at)) ∙ sym c.head_at.ensures

pub returns-in_err-letter : goal.returns-in_err-letter
returns-in_err-letter c =
    c.from_residual.ensures
    ∙ at_no_form c.args.s.now c.args.self.at (headless _ (letter-of (goal.at.returns-in_err-letter c).After-head_at ∙ c.in_err-letter.was))

head-of : (c : In_ok-letter) → begins_with (head_with c.in_ok-letter.letter) (drop c.args.self.at c.args.s.now) ≡ true
head-of c = headed _ _ (ap head_of (sym (rest_all c.args.s.now c.args.self.at)) ∙ sym c.head_at.ensures ∙ c.in_ok-letter.was)

-- the head leaves the name's place inside
name_room : (c : In_ok-letter) → c.args.self.at + 3 ≤ length c.args.s.now
name_room c = begins-room (head_with c.in_ok-letter.letter) c.args.s.now c.args.self.at (omega (arith, c.if-s-at.false)) (head-of c)

pub slice_bounds-read_name-count : goal.slice_bounds-read_name-count
slice_bounds-read_name-count c = name_room c

pub slice_bounds-read_name-start : goal.slice_bounds-read_name-start
slice_bounds-read_name-start c = name_room c

pub returns-in_err-name_len : goal.returns-in_err-name_len
returns-in_err-name_len c =
    let s = c.args.s.now in
    let r = begins-room (head_with c.in_ok-letter.letter) s c.args.self.at (omega arith) (head-of (goal.at.returns-in_err-name_len c).In_ok-letter) in
    c.from_residual-in_err-name_len.ensures
    ∙ at_no_form s c.args.self.at
    (unnamed _ (sym (name_good s c.args.self.at) ∙ ending s (c.args.self.at + 3) r None (sym c.in_err-name_len.was ∙ c.read_name.ensures)))

-- what is known of the name's end
named : (c : In_ok-name_len) → begins_with (head_with c.in_ok-letter.letter) (drop c.args.self.at c.args.s.now) ≡ true → Ending c.args.s.now (c.args.self.at + 3) (Some c.in_ok-name_len.name_len)
named c h =
    let s = c.args.s.now in
    let r = begins-room (head_with c.in_ok-letter.letter) s c.args.self.at (omega arith) h in
    ending s (c.args.self.at + 3) r (Some c.in_ok-name_len.name_len) (sym c.in_ok-name_len.was ∙ c.read_name.ensures)

pub overflow_add-name_end : goal.overflow_add-name_end
overflow_add-name_end c =
    let n = named c (head-of (goal.at.overflow_add-name_end c).In_ok-letter) in
    omega (arith, c.well_formed, n.1)

pub slice_bounds-begins_with-count : goal.slice_bounds-begins_with-count
slice_bounds-begins_with-count c =
    let n = named (goal.at.slice_bounds-begins_with-count c).In_ok-name_len (head-of (goal.at.slice_bounds-begins_with-count c).In_ok-letter) in
    n.1

pub slice_bounds-begins_with-start : goal.slice_bounds-begins_with-start
slice_bounds-begins_with-start c =
    let n = named (goal.at.slice_bounds-begins_with-start c).In_ok-name_len (head-of (goal.at.slice_bounds-begins_with-start c).In_ok-letter) in
    n.1

-- the test of what stands between, at the name's end
between_at : (c : After-begins_with) → begins_with between (drop (c.args.self.at + 3 + c.in_ok-name_len.name_len) c.args.s.now) ≡ c.begins_with.result
between_at c =
    ap (begins_with between) (sym (rest_all c.args.s.now (c.args.self.at + 3 + c.in_ok-name_len.name_len))) ∙ sym c.begins_with.ensures

pub returns-then-not-begins_with : goal.returns-then-not-begins_with
returns-then-not-begins_with c =
    let e = (c.args.self.at + 3 + c.in_ok-name_len.name_len) in
    let n = named (goal.at.returns-then-not-begins_with c).In_ok-name_len (head-of (goal.at.returns-then-not-begins_with c).In_ok-letter) in
    at_no_form c.args.s.now c.args.self.at
    (not-between _ (ap (begins_with between) (to_name_end c.args.s.now c.args.self.at e (e + 2 + name_run (drop (e + 2) c.args.s.now)) n.0 refl) ∙ between_at (goal.at.returns-then-not-begins_with c).After-begins_with ∙ c.if-not-begins_with.true))

-- what is known of the value's end
stopped : (c : After-run_len) → (c.args.self.at + 3 + c.in_ok-name_len.name_len + 2 + c.run_len.result ≡ c.args.self.at + 3 + c.in_ok-name_len.name_len + 2 + name_run (drop (c.args.self.at + 3 + c.in_ok-name_len.name_len + 2) c.args.s.now))
    × (c.args.self.at + 3 + c.in_ok-name_len.name_len + 2 + c.run_len.result ≤ length c.args.s.now)
stopped c =
    let s = c.args.s.now in
    let e = c.args.self.at + 3 + c.in_ok-name_len.name_len in
    let n = named (goal.at.overflow_add-value_end c).In_ok-name_len (head-of (goal.at.overflow_add-value_end c).In_ok-letter) in
    stopping s (e + 2) c.run_len.result (begins-room between s e n.1 (between_at (goal.at.overflow_add-value_end c).After-begins_with ∙ c.if-not-begins_with.false)) c.run_len.ensures

pub overflow_add-value_end : goal.overflow_add-value_end
overflow_add-value_end c = let f = stopped c in omega (arith, c.well_formed, f.1)

pub slice_bounds-begins_with-count-2 : goal.slice_bounds-begins_with-count-2
slice_bounds-begins_with-count-2 c = let f = stopped c in f.1

pub slice_bounds-begins_with-start-2 : goal.slice_bounds-begins_with-start-2
slice_bounds-begins_with-start-2 c = let f = stopped c in f.1

closed_at : (c : After-begins_with-2) → begins_with closing (drop (c.args.self.at + 3 + c.in_ok-name_len.name_len + 2 + c.run_len.result) c.args.s.now) ≡ c.begins_with-2.result
closed_at c = ap (begins_with closing) (sym (rest_all c.args.s.now (c.args.self.at + 3 + c.in_ok-name_len.name_len + 2 + c.run_len.result))) ∙ sym c.begins_with-2.ensures

pub returns-then-not-begins_with-2 : goal.returns-then-not-begins_with-2
returns-then-not-begins_with-2 c =
    let n = named (goal.at.returns-then-not-begins_with-2 c).In_ok-name_len (head-of (goal.at.returns-then-not-begins_with-2 c).In_ok-letter) in
    at_no_form c.args.s.now c.args.self.at (not_closed _ (ap (begins_with closing) (to_value_end c.args.s.now c.args.self.at (c.args.self.at + 3 + c.in_ok-name_len.name_len) (c.args.self.at + 3 + c.in_ok-name_len.name_len + 2 + c.run_len.result) n.0 (stopped (goal.at.returns-then-not-begins_with-2 c).After-run_len).0) ∙ closed_at (goal.at.returns-then-not-begins_with-2 c).After-begins_with-2 ∙ c.if-not-begins_with-2.true))

pub slice_bounds-is_meant-count : goal.slice_bounds-is_meant-count
slice_bounds-is_meant-count c =
    let n = named (goal.at.slice_bounds-is_meant-count c).In_ok-name_len (head-of (goal.at.slice_bounds-is_meant-count c).In_ok-letter) in
    omega (arith, n.0)

pub slice_bounds-is_meant-start : goal.slice_bounds-is_meant-start
slice_bounds-is_meant-start c =
    let n = named (goal.at.slice_bounds-is_meant-start c).In_ok-name_len (head-of (goal.at.slice_bounds-is_meant-start c).In_ok-letter) in
    omega (arith, n.0)

pub is_meant-requires : goal.is_meant-requires
is_meant-requires c =
    let e = (c.args.self.at + 3 + c.in_ok-name_len.name_len) in
    let n : name_run (drop (e + 2) c.args.s.now) ≡ (c.args.self.at + 3 + c.in_ok-name_len.name_len + 2 + c.run_len.result) - (e + 2) = omega (arith, (stopped (goal.at.is_meant-requires c).After-run_len).0) in
    ap (λ (k : ℕ). holds_forbidden (take k (drop (e + 2) c.args.s.now))) (sym n) ∙ front-plain (drop (e + 2) c.args.s.now)

-- the entry that is tested for its meaning is that of the line
meaning_at : (c : After-is_meant) → begins_with (head_with c.in_ok-letter.letter) (drop c.args.self.at c.args.s.now) ≡ true
    → (c.args.self.at + 3 + c.in_ok-name_len.name_len) ≡ c.args.self.at + 3 + name_run (drop (c.args.self.at + 3) c.args.s.now)
    → c.args.self.at + 3 + c.in_ok-name_len.name_len + 2 + c.run_len.result ≡ c.args.self.at + 3 + c.in_ok-name_len.name_len + 2 + name_run (drop (c.args.self.at + 3 + c.in_ok-name_len.name_len + 2) c.args.s.now)
    → is_meant (line_at c.args.s.now c.args.self.at) ≡ c.is_meant.result
meaning_at c h pe pf =
    ap is_meant (same_entry (line_at c.args.s.now c.args.self.at) _ _ _
    (letter_at c.args.s.now c.args.self.at _ h)
    (name_is c.args.s.now c.args.self.at (c.args.self.at + 3 + c.in_ok-name_len.name_len) (c.args.self.at + 3 + c.in_ok-name_len.name_len + 2 + c.run_len.result) pe pf)
    (value_is c.args.s.now c.args.self.at (c.args.self.at + 3 + c.in_ok-name_len.name_len) (c.args.self.at + 3 + c.in_ok-name_len.name_len + 2 + c.run_len.result) pe pf))
    ∙ sym c.is_meant.ensures

pub returns-then-not-is_meant : goal.returns-then-not-is_meant
returns-then-not-is_meant c =
    let h = head-of (goal.at.returns-then-not-is_meant c).In_ok-letter in
    let n = named (goal.at.returns-then-not-is_meant c).In_ok-name_len h in
    at_no_form c.args.s.now c.args.self.at (unmeant _ (meaning_at (goal.at.returns-then-not-is_meant c).After-is_meant h n.0 (stopped (goal.at.returns-then-not-is_meant c).After-run_len).0 ∙ c.if-not-is_meant.true))

pub overflow_add-end : goal.overflow_add-end
overflow_add-end c =
    let r : (c.args.self.at + 3 + c.in_ok-name_len.name_len + 2 + c.run_len.result) + 3 ≤ length c.args.s.now = begins-room closing c.args.s.now (c.args.self.at + 3 + c.in_ok-name_len.name_len + 2 + c.run_len.result) (stopped (goal.at.overflow_add-end c).After-run_len).1 (closed_at (goal.at.overflow_add-end c).After-begins_with-2 ∙ c.if-not-begins_with-2.false) in
    omega (arith, c.well_formed)

pub returns : goal.returns
returns c =
    let b = head-of (goal.at.returns c).In_ok-letter in
    let n = named (goal.at.returns c).In_ok-name_len b in
    let pe = n.0 in
    let pf = (stopped (goal.at.returns c).After-run_len).0 in
    let e = (c.args.self.at + 3 + c.in_ok-name_len.name_len) in
    let f = (c.args.self.at + 3 + c.in_ok-name_len.name_len + 2 + c.run_len.result) in
    let t = drop c.args.self.at c.args.s.now in
    let h = subst (λ (l : ℕ). begins_with (head_with l) t ≡ true) (sym (letter_is t _ b)) b in
    let m = ap (begins_with between) (to_name_end c.args.s.now c.args.self.at e f pe pf) ∙ between_at (goal.at.returns c).After-begins_with ∙ c.if-not-begins_with.false in
    let k = ap (begins_with closing) (to_value_end c.args.s.now c.args.self.at e f pe pf) ∙ closed_at (goal.at.returns c).After-begins_with-2 ∙ c.if-not-begins_with-2.false in
    let g = sym (name_good c.args.s.now c.args.self.at) ∙ n.2 in
    at_form c.args.s.now c.args.self.at e f pe pf _ (letter_at c.args.s.now c.args.self.at _ b) (formed t (shaped t h m k) g (meaning_at (goal.at.returns c).After-is_meant b pe pf ∙ c.if-not-is_meant.false))
