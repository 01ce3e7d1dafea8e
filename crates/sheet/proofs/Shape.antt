-- When a form stands at a place: its head, the bytes between name and value, and its close. The proofs of the reader's step and of
-- the sheet's check cite these. Assumes nothing.
use Prim.Native.Nat.{ℕ, zero, suc, ◌+◌, ◌-◌, ◌≤◌}
use native.Mathlib.Omega.{arith}
use mathlib.Core.Path.{◌≡◌, refl, ap, subst, ◌∙◌}
use mathlib.Core.Bool.{Bool, true, false, ◌&&◌, and-false, and-true}
use mathlib.Core.List.{List, [], ◌∷◌, ◌++◌}
use lib.ListN.{length, take, drop, get_or, length-drop, length-append}
use lib.Seq.{take_all}
use borrow.Author.Tests.{eq-eqb, le-leb}
use Rattle.runs.specs.Runs.{begins_with}
use Rattle.runs.proofs.Begins.{begins-append, begins-front}
use Rattle.text.specs.Names.{name_run}
use Rattle.sheet.specs.Forms.{front, entry_of, written, is_name, is_meant, is_form}
use Rattle.sheet.specs.Steps.{head_with, head_of}
use Rattle.std.specs.Prelude.{Some, None}
use lib.Dec.{eqb, leb}
use Rattle.runs.specs.Runs.{pick}
use Rattle.sheet.proofs.Fronts.{front_length}

-- what stands between the first name and the value, and after the value
abbrev pub between : List ℕ
between = 0x20 ∷ 0x28 ∷ []

abbrev pub closing : List ℕ
closing = 0x29 ∷ 0x29 ∷ 0x0A ∷ []

-- a part of s that goes to its end is all of the rest
pub rest_all : (s : List ℕ) (n : ℕ) → take (length s - n) (drop n s) ≡ drop n s
rest_all s n = take_all (length s - n) (drop n s) (rw (length-drop n s) (omega arith))

begins-fits : (h s : List ℕ) → begins_with h s ≡ true → length h ≤ length s
begins-fits h s e = let n : length s ≡ length h + length (drop (length h) s) = ap length (begins-front h s e) ∙ length-append h (drop (length h) s) in omega arith

-- what stands at a place lies inside
pub begins-room : (h s : List ℕ) (at : ℕ) → at ≤ length s → begins_with h (drop at s) ≡ true → at + length h ≤ length s
begins-room h s at k e =
    let n : length h ≤ length s - at = subst (λ (x : ℕ). length h ≤ x) (length-drop at s) (begins-fits h (drop at s) e) in
    omega arith

begins-taken : (k : ℕ) (t : List ℕ) → begins_with (take k t) t ≡ true
begins-taken zero t = refl
begins-taken (suc k) [] = refl
begins-taken (suc k) (b ∷ t) = rw (eq-eqb b b refl) (begins-taken k t)

past-front : (t r : List ℕ) → begins_with (front t ++ r) t ≡ begins_with r (drop (name_run t) t)
past-front t r = begins-append (front t) r t ∙ rw (begins-taken (name_run t) t, front_length t)

-- the head, what stands between, and the close, read at the front of t
pub shape : (t : List ℕ) → begins_with (written (entry_of t)) t
    ≡ (begins_with (head_with (get_or t 1 0)) t
    && (begins_with between (drop (name_run (drop 3 t)) (drop 3 t))
    && begins_with closing (drop (name_run (drop 2 (drop (name_run (drop 3 t)) (drop 3 t)))) (drop 2 (drop (name_run (drop 3 t)) (drop 3 t))))))
unfolding written entry_of
shape t =
    let u = drop 3 t in
    let v = drop (name_run u) u in
    let w = drop 2 v in
    let inner = past-front w closing in
    let middle = begins-append between (front w ++ closing) v ∙ ap (λ (x : Bool). begins_with between v && x) inner in
    let outer = past-front u (between ++ (front w ++ closing)) ∙ middle in
    begins-append (head_with (get_or t 1 0)) (front u ++ (between ++ (front w ++ closing))) t ∙ ap (λ (x : Bool). begins_with (head_with (get_or t 1 0)) t && x) outer

-- a form has its shape, its name and its meaning
module _ (t : List ℕ) where
  pub unshaped : begins_with (written (entry_of t)) t ≡ false → is_form t ≡ false
  unfolding is_form
  unshaped e = rw e

  pub unnamed : is_name (entry_of t).name ≡ false → is_form t ≡ false
  unfolding is_form
  unnamed e = rw (e, and-false)

  pub unmeant : is_meant (entry_of t) ≡ false → is_form t ≡ false
  unfolding is_form
  unmeant e = rw (e, and-false)

  pub formed : begins_with (written (entry_of t)) t ≡ true → is_name (entry_of t).name ≡ true → is_meant (entry_of t) ≡ true → is_form t ≡ true
  unfolding is_form
  formed a b c = rw (a, b, c)

-- a part of the shape that is missing
lost_first : (x a r : Bool) → x ≡ (a && r) → a ≡ false → x ≡ false
lost_first x a r e f = e ∙ rw f

lost_second : (x a b c : Bool) → x ≡ (a && (b && c)) → b ≡ false → x ≡ false
lost_second x a b c e f = e ∙ rw (f, and-false)

lost_third : (x a b c : Bool) → x ≡ (a && (b && c)) → c ≡ false → x ≡ false
lost_third x a b c e f = e ∙ rw (f, and-false, and-false)

all_three : (x a b c : Bool) → x ≡ (a && (b && c)) → a ≡ true → b ≡ true → c ≡ true → x ≡ true
all_three x a b c e p q r = e ∙ rw (p, q, r)

module _ (t : List ℕ) where
  abbrev head : Bool
  head = begins_with (head_with (get_or t 1 0)) t

  abbrev past-name : List ℕ
  past-name = drop (name_run (drop 3 t)) (drop 3 t)

  abbrev past_value : List ℕ
  past_value = drop (name_run (drop 2 past-name)) (drop 2 past-name)

  pub no-head : head ≡ false → is_form t ≡ false
  no-head e = unshaped t (lost_first _ head (begins_with between past-name && begins_with closing past_value) (shape t) e)

  pub not-between : begins_with between past-name ≡ false → is_form t ≡ false
  not-between e = unshaped t (lost_second _ head (begins_with between past-name) (begins_with closing past_value) (shape t) e)

  pub not_closed : begins_with closing past_value ≡ false → is_form t ≡ false
  not_closed e = unshaped t (lost_third _ head (begins_with between past-name) (begins_with closing past_value) (shape t) e)

  pub shaped : head ≡ true → begins_with between past-name ≡ true → begins_with closing past_value ≡ true
      → begins_with (written (entry_of t)) t ≡ true
  shaped p q r = all_three _ head (begins_with between past-name) (begins_with closing past_value) (shape t) p q r

-- the head by its three bytes
head_with_by : (l : ℕ) (t : List ℕ) → begins_with (head_with l) t ≡ (leb 3 (length t) && (eqb 0x28 (get_or t 0 0) && (eqb l (get_or t 1 0) && eqb 0x20 (get_or t 2 0))))
head_with_by l [] = refl
head_with_by l (a ∷ []) = few (eqb 0x28 a)
  where
    few : (x : Bool) → (x && false) ≡ false
    few true = refl
    few false = refl
head_with_by l (a ∷ b ∷ []) = few (eqb 0x28 a) (eqb l b)
  where
    few : (x y : Bool) → (x && (y && false)) ≡ false
    few true true = refl
    few true false = refl
    few false y = refl
head_with_by l (a ∷ b ∷ c ∷ t) = rw (le-leb 3 (suc (suc (suc (length t)))) (omega arith), and-true (eqb 0x20 c))

pub head_by : (t : List ℕ) → head_of t ≡
    pick (leb 3 (length t) && (eqb 0x28 (get_or t 0 0) && (eqb 0x77 (get_or t 1 0) && eqb 0x20 (get_or t 2 0)))) (Some 0x77)
    (pick (leb 3 (length t) && (eqb 0x28 (get_or t 0 0) && (eqb 0x6C (get_or t 1 0) && eqb 0x20 (get_or t 2 0)))) (Some 0x6C)
    (pick (leb 3 (length t) && (eqb 0x28 (get_or t 0 0) && (eqb 0x6B (get_or t 1 0) && eqb 0x20 (get_or t 2 0)))) (Some 0x6B)
    None))
unfolding head_of
head_by t = rw (head_with_by 0x77 t, head_with_by 0x6C t, head_with_by 0x6B t)
