-- The bytes before the first one that no name holds, read one by one. The proofs of `read_name` and of a line's shape cite these.
-- Assumes nothing.
use Rattle.std.specs.Prelude.{Some, None}
use Rattle.std.specs.List.{position, position_or_len}
use Rattle.std.specs.Option.{unwrap_or}
use Rattle.std.specs.Bool.{then_some}
use Prim.Native.Nat.{ℕ, zero, suc, ◌+◌, ◌-◌, ◌<◌, ◌≤◌}
use native.Mathlib.Omega.{arith}
use native.Mathlib.Numerals.{add-one}
use mathlib.Core.Path.{◌≡◌, refl, sym, ap, subst, ◌∙◌}
use mathlib.Core.Bool.{Bool, true, false, not, cond, ◌&&◌, and-true}
use mathlib.Core.List.{List, [], ◌∷◌}
use lib.ListN.{length, take, drop, get_or, drop_of_length-le, length-drop, length-take}
use lib.Seq.{drop-cons, drop-drop, take_all, get_or-drop}
use lib.Dec.{ltb, leb}
use Rattle.runs.specs.Runs.{pick}
use Rattle.text.specs.Utf8.{Owed, owes, run, whole, is_utf8, after}
use Rattle.text.specs.Names.{forbidden, name_run, holds_forbidden}
use Rattle.text.specs.Utf8.{from_to, tail, within, opened, utf8_char}
use Rattle.text.proofs.Ranges.{inside}
use Rattle.sheet.specs.Limits.{name_limit}
use Rattle.sheet.specs.Forms.{front, is_name}
use Rattle.sheet.specs.Passing.{Three, Passed}
use Rattle.sheet.specs.Steps.{name_read}
use borrow.Author.Tests.{lt-leb, ne_eqb, ltb-false}

-- a run's first byte, forbidden or not
module _ (b : ℕ) (t : List ℕ) where
  pub run_stops : forbidden b ≡ true → name_run (b ∷ t) ≡ 0
  unfolding name_run
  run_stops e = rw e

  pub run_goes : forbidden b ≡ false → name_run (b ∷ t) ≡ suc (name_run t)
  unfolding name_run
  run_goes e = rw e

pub run_inside : (t : List ℕ) → name_run t ≤ length t
unfolding name_run
run_inside [] = omega arith
run_inside (b ∷ t) = by (forbidden b) (run_inside t)
  where
    by : (f : Bool) → name_run t ≤ length t → pick f zero (suc (name_run t)) ≤ suc (length t)
    by true h = omega arith
    by false h = omega arith

-- the first byte that no name holds ends it
run_place : (t : List ℕ) → name_run t ≡ position_or_len forbidden t
unfolding name_run
run_place [] = refl
run_place (b ∷ t) = by (forbidden b) (run_place t)
  where
    by : (f : Bool) → name_run t ≡ position_or_len forbidden t → pick f zero (suc (name_run t)) ≡ cond (not f) (1 + position_or_len forbidden t) 0
    by true h = refl
    by false h = omega arith

pub run_met : (t : List ℕ) → name_run t ≡ unwrap_or (position forbidden t) (length t)
run_met t = run_place t ∙ by (ltb p (length t)) refl
  where
    p : ℕ
    p = position_or_len forbidden t

    by : (f : Bool) → ltb p (length t) ≡ f → p ≡ unwrap_or (cond f (Some p) None) (length t)
    by true e = refl
    by false e = omega (arith, ltb-false p (length t) e, run_place t, run_inside t)

pub front_length : (t : List ℕ) → length (front t) ≡ name_run t
unfolding name_run
front_length [] = refl
front_length (b ∷ t) = by (forbidden b) (front_length t)
  where
    by : (f : Bool) → length (take (name_run t) t) ≡ name_run t → length (take (pick f zero (suc (name_run t))) (b ∷ t)) ≡ pick f zero (suc (name_run t))
    by true h = refl
    by false h = ap suc h

pub front-plain : (t : List ℕ) → holds_forbidden (front t) ≡ false
unfolding name_run holds_forbidden
front-plain [] = refl
front-plain (b ∷ t) = by (forbidden b) refl (front-plain t)
  where
    by : (f : Bool) → forbidden b ≡ f → holds_forbidden (take (name_run t) t) ≡ false → holds_forbidden (take (pick f zero (suc (name_run t))) (b ∷ t)) ≡ false
    by true e h = refl
    by false e h = rw e h

-- at a place of s
module _ (s : List ℕ) (i : ℕ) where
  pub stops_here : i < length s → forbidden (get_or s i 0) ≡ true → name_run (drop i s) ≡ 0
  stops_here h e = rw (drop-cons s i 0 h) (run_stops _ _ e)

  pub stops_end : length s ≤ i → name_run (drop i s) ≡ 0
  unfolding name_run
  stops_end h = rw (drop_of_length-le s h)

  pub goes_on_lem : i < length s → forbidden (get_or s i 0) ≡ false → name_run (drop i s) ≡ suc (name_run (drop (i + 1) s))
  goes_on_lem h e = rw (add-one, drop-cons s i 0 h) (run_goes _ _ e)

  pub front_on : i < length s → forbidden (get_or s i 0) ≡ false → front (drop i s) ≡ get_or s i 0 ∷ front (drop (i + 1) s)
  front_on h e =
      let q = goes_on_lem h e in
      rw (q, drop-cons s i 0 h, add-one)

  pub owed_on : (o o' : Owed) → i < length s → forbidden (get_or s i 0) ≡ false → o' ≡ after o (get_or s i 0)
      → run o (front (drop i s)) ≡ run o' (front (drop (i + 1) s))
  unfolding run
  owed_on o o' h e q = rw (front_on h e, q)

  -- the name has been read up to i, where it ends
  pub read_done : (o : Owed) → name_run (drop i s) ≡ 0 → i + name_run (drop i s) ≡ name_run s → run (owes []) (front s) ≡ run o (front (drop i s))
      → (ltb 0 i && leb i name_limit && whole o) ≡ is_name (front s)
  unfolding is_name is_utf8 run
  read_done o z n q =
      let l : length (front s) ≡ i = front_length s ∙ omega arith in
      rw (l, front-plain s, q, z) (sym (and-true _))

-- the end of a name, by whether the bytes that were read are one
pub name_told : (t : List ℕ) (e : ℕ) {b : Bool} → e ≡ name_run t → b ≡ is_name (front t) → then_some b e ≡ name_read t
unfolding name_read
name_told t e {b} p q = rw (q, p) (by (is_name (front t)))
  where
    by : (c : Bool) → then_some c (name_run t) ≡ pick c (Some (name_run t)) None
    by true = refl
    by false = refl

-- a byte from 80 on may stand in a name
high-plain : (b : ℕ) → 0x80 ≤ b → forbidden b ≡ false
unfolding forbidden
high-plain b h = rw (lt-leb b 0x20 (omega arith), ne_eqb b 0x28 (λ e. omega arith), ne_eqb b 0x29 (λ e. omega arith), ne_eqb b 0x7F (λ e. omega arith))

-- a three-byte character at i is passed at one go: it begins with E0, and its tails lie in their ranges
module _ (s : List ℕ) (i : ℕ) (t : Three s i) where
  one_on : (k : ℕ) → k < length s → 0x80 ≤ get_or s k 0 → (k + name_run (drop k s) ≡ k + 1 + name_run (drop (k + 1) s))
  one_on k h b = let g = goes_on_lem s k h (high-plain _ b) in omega arith

  first-owed : owes (from_to 0xA0 0xBF ∷ tail ∷ []) ≡ after (owes []) (get_or s i 0)
  unfolding after opened utf8_char within
  first-owed = rw t.first

  second_owed : owes (tail ∷ []) ≡ after (owes (from_to 0xA0 0xBF ∷ tail ∷ [])) (get_or s (i + 1) 0)
  unfolding after
  second_owed = rw (inside (from_to 0xA0 0xBF) _ t.second_low t.second_high)

  third_owed : owes [] ≡ after (owes (tail ∷ [])) (get_or s (i + 2) 0)
  unfolding after
  third_owed = rw (inside tail _ t.third_low t.third_high)

  second_place : i + 1 + 1 ≡ i + 2
  second_place = omega arith

  third_place : i + 2 + 1 ≡ i + 3
  third_place = omega arith

  three_counted : i + 3 + name_run (drop (i + 3) s) ≡ i + name_run (drop i s)
  three_counted =
      sym (one_on i (omega (arith, t.room)) (omega (arith, t.first))
      ∙ one_on (i + 1) (omega (arith, t.room)) (omega (arith, t.second_low)) ∙ ap (λ (k : ℕ). k + name_run (drop k s)) second_place
      ∙ one_on (i + 2) (omega (arith, t.room)) t.third_low ∙ ap (λ (k : ℕ). k + name_run (drop k s)) third_place)

  three_owed : run (owes []) (front (drop i s)) ≡ run (owes []) (front (drop (i + 3) s))
  three_owed =
      owed_on s i _ _ (omega (arith, t.room)) (high-plain _ (omega (arith, t.first))) first-owed
      ∙ owed_on s (i + 1) _ _ (omega (arith, t.room)) (high-plain _ (omega (arith, t.second_low))) second_owed
      ∙ ap (λ (k : ℕ). run (owes (tail ∷ [])) (front (drop k s))) second_place
      ∙ owed_on s (i + 2) _ _ (omega (arith, t.room)) (high-plain _ t.third_low) third_owed
      ∙ ap (λ (k : ℕ). run (owes []) (front (drop k s))) third_place

  -- and what was passed before it stays so
  pub passed_on : Passed s i → Passed s (i + 3)
  passed_on p = record { inside = t.room; counted = three_counted ∙ p.counted; owed = p.owed ∙ three_owed }

passed_none : (s : List ℕ) → Passed s 0
passed_none s = record { inside = omega arith; counted = omega arith; owed = refl }

-- the bytes that are ahead, where those before them have been passed
pub record Ahead (s rest : List ℕ) : Type 0 where
  pub within : length rest ≤ length s
  pub behind : rest ≡ drop (length s - length rest) s
  pub passed : Passed s (length s - length rest)

ahead_from : (s rest : List ℕ) (n : ℕ) → rest ≡ drop n s → n ≤ length s → Passed s n → Ahead s rest
ahead_from s rest n e h p =
    let l : length rest ≡ length s - n = ap length e ∙ length-drop n s in
    let m : length s - length rest ≡ n = omega arith in
    record { within = omega arith; behind = e ∙ ap (λ (x : ℕ). drop x s) (sym m); passed = subst (Passed s) (sym m) p }

pub ahead_all : (s : List ℕ) → Ahead s s
ahead_all s = ahead_from s s 0 refl (omega arith) (passed_none s)

pub ahead_on : (s rest : List ℕ) → Ahead s rest → 3 ≤ length rest → get_or rest 0 0 ≡ 0xE0
    → 0xA0 ≤ get_or rest 1 0 → get_or rest 1 0 ≤ 0xBF → 0x80 ≤ get_or rest 2 0 → get_or rest 2 0 ≤ 0xBF
    → Ahead s (take (length rest - 3) (drop 3 rest))
ahead_on s rest a h b c d e f =
    let n : length (drop 3 rest) ≡ length rest - 3 = length-drop 3 rest in
    let q : take (length rest - 3) (drop 3 rest) ≡ drop 3 rest = take_all (length rest - 3) (drop 3 rest) (omega arith) in
    let p : drop 3 rest ≡ drop (i + 3) s = ap (drop 3) a.behind ∙ drop-drop 3 i s in
    let w = a.within in
    ahead_from s _ (i + 3) (q ∙ p) (omega arith) (passed_on s i three a.passed)
  where
    i : ℕ
    i = length s - length rest

    at : (k : ℕ) → get_or rest k 0 ≡ get_or s (i + k) 0
    at k = ap (λ (l : List ℕ). get_or l k 0) a.behind ∙ get_or-drop i s k 0

    three : Three s i
    three =
        let z : i + 0 ≡ i = omega arith in
        let x : get_or rest 0 0 ≡ get_or s i 0 = at 0 ∙ ap (λ (y : ℕ). get_or s y 0) z in
        let y = at 1 in
        let v = at 2 in
        record {
          room = omega (arith, a.within);
          first = omega arith;
          second_low = omega arith;
          second_high = omega arith;
          third_low = omega arith;
          third_high = omega arith;
        }

pub fewer_ahead : (rest : List ℕ) (k : ℕ) → 3 ≤ length rest → length (take k (drop 3 rest)) < length rest
fewer_ahead rest k h = simp (length-take, length-drop) (omega arith)
