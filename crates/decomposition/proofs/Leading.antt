-- Laws of the prefix that decompose strips. The proofs of the functions of `fronts` cite these. Assumes nothing.
use Rattle.std.specs.Prelude.{None, Option, Some}
use Rattle.std.specs.Bool.{then_some}
use mathlib.Core.Path.{◌≡◌, refl, sym, ap, ◌∙◌}
use mathlib.Core.Bool.{Bool, true, false, ◌&&◌}
use mathlib.Core.List.{List, []}
use Prim.Native.Nat.{ℕ, ◌+◌, ◌-◌, ◌<◌, ◌≤◌}
use native.Mathlib.Numerals.{add-one}
use native.Mathlib.Omega.{arith}
use lib.ListN.{length, take, drop, get_or, drop_of_length-le, length-drop}
use lib.Seq.{drop-cons, take_all}
use Rattle.runs.specs.Runs.{pick}
use Rattle.sheet.specs.Replies.{Ask}
use Rattle.runs.proofs.Begins.{and_left}
use Rattle.strips.proofs.Remainders.{rest-inside}
use Rattle.strips.specs.Prefix.{leaves, after, rest_of}
use Rattle.decomposition.specs.declared.fronts.Front.{Front}
use Rattle.decomposition.specs.Strips.{is_word, leaves_word, word_rest, first_front, front_at, no_front}

-- a form that leaves something leaves it from its own length on
pub rest_from : (w form : List ℕ) (n : ℕ) → Some n ≡ rest_of w form → (leaves w form ≡ true) × (n ≡ length form)
unfolding rest_of
rest_from w form n e = go (leaves w form) refl e
  where
    go : (b : Bool) → leaves w form ≡ b → Some n ≡ pick b (Some (length form)) None → (leaves w form ≡ true) × (n ≡ length form)
    go true l q = (l, cc)
    go false l q = let z : ◌≡◌ {A = ℕ} 0 1 = cc in absurd (omega arith)

leaves-rest : (w form : List ℕ) → leaves w form ≡ true → rest_of w form ≡ Some (length form)
unfolding rest_of
leaves-rest w form l = rw l

-- a part of the word up to its end, as the code lends it
pub lent_rest : (w : List ℕ) (n : ℕ) → take (length w - n) (drop n w) ≡ drop n w
lent_rest w n = let h : length (drop n w) ≤ length w - n = simp length-drop (omega arith) in take_all (length w - n) (drop n w) h

module _ (ask : Ask) (w form : List ℕ) where
  pub rest-none : None ≡ rest_of w form → None ≡ word_rest ask w form
  unfolding rest_of word_rest leaves_word
  rest-none e = go (leaves w form) e
    where
      go : (b : Bool) → None ≡ pick b (Some (length form)) None → None ≡ pick (b && is_word ask (after w form)) (Some (length form)) None
      go true q = let z : ◌≡◌ {A = ℕ} 0 1 = cc in absurd (omega arith)
      go false q = refl

  module _ (n : ℕ) (e : Some n ≡ rest_of w form) (b : Bool) (k : b ≡ is_word ask (take (length w - n) (drop n w))) where
    known : is_word ask (after w form) ≡ b
    known = ap (λ (m : ℕ). is_word ask (drop m w)) (sym (rest_from w form n e).1) ∙ ap (is_word ask) (sym (lent_rest w n)) ∙ sym k

    rest_known : b ≡ true → Some n ≡ word_rest ask w form
    unfolding word_rest leaves_word
    rest_known t = rw ((rest_from w form n e).0, known, t) (ap Some (rest_from w form n e).1)

    rest-unknown : b ≡ false → None ≡ word_rest ask w form
    unfolding word_rest leaves_word
    rest-unknown t = rw ((rest_from w form n e).0, known, t)

  pub rest_told : (n : ℕ) → Some n ≡ rest_of w form → (b : Bool) → b ≡ is_word ask (take (length w - n) (drop n w)) → then_some b n ≡ word_rest ask w form
  rest_told n e true k = rest_known n e true k refl
  rest_told n e false k = rest-unknown n e false k refl

-- what the rest of a form says of the first row
word-from : (ask : Ask) (w form : List ℕ) (n : ℕ) → Some n ≡ word_rest ask w form → (leaves_word ask w form ≡ true) × (n ≡ length form)
unfolding word_rest
word-from ask w form n e = go (leaves_word ask w form) refl e
  where
    go : (b : Bool) → leaves_word ask w form ≡ b → Some n ≡ pick b (Some (length form)) None → (leaves_word ask w form ≡ true) × (n ≡ length form)
    go true l q = (l, cc)
    go false l q = let z : ◌≡◌ {A = ℕ} 0 1 = cc in absurd (omega arith)

word_none : (ask : Ask) (w form : List ℕ) → None ≡ word_rest ask w form → leaves_word ask w form ≡ false
unfolding word_rest
word_none ask w form e = go (leaves_word ask w form) refl e
  where
    go : (b : Bool) → leaves_word ask w form ≡ b → None ≡ pick b (Some (length form)) None → leaves_word ask w form ≡ false
    go true l q = let z : ◌≡◌ {A = ℕ} 0 1 = cc in absurd (omega arith)
    go false l q = l

-- what is left begins inside the word
pub word-inside : (ask : Ask) (w form : List ℕ) (n : ℕ) → Some n ≡ word_rest ask w form → n ≤ length w
unfolding leaves_word
word-inside ask w form n e =
    let l : leaves w form ≡ true = and_left (leaves w form) (is_word ask (after w form)) (word-from ask w form n e).0 in
    let q : rest_of w form ≡ Some n = from-rest w form n l (word-from ask w form n e).1 in
    rest-inside w form n q
  where
    from-rest : (w form : List ℕ) (n : ℕ) → leaves w form ≡ true → n ≡ length form → rest_of w form ≡ Some n
    from-rest w form n l q = leaves-rest w form l ∙ ap Some (sym q)

module _ (ask : Ask) (w : List ℕ) (rows : List (List ℕ)) (k : ℕ) where
  pub front-found : (form : List ℕ) (n : ℕ) → k < length rows → form ≡ get_or rows k [] → Some n ≡ word_rest ask w form
      → first_front ask w k (drop k rows) ≡ front_at k n
  front-found form n h e q =
      let t : leaves_word ask w (get_or rows k []) ≡ true = rw e at (word-from ask w form n q).0 in
      let l : length (get_or rows k []) ≡ n = rw e at (sym (word-from ask w form n q).1) in
      rw (drop-cons rows k [], t, l)

  pub front_next : (form : List ℕ) → k < length rows → form ≡ get_or rows k [] → None ≡ word_rest ask w form
      → first_front ask w k (drop k rows) ≡ first_front ask w (k + 1) (drop (k + 1) rows)
  front_next form h e q =
      let t : leaves_word ask w (get_or rows k []) ≡ false = rw e at (word_none ask w form q) in
      rw (drop-cons rows k [], t, add-one)

  pub front-end : length rows ≤ k → first_front ask w k (drop k rows) ≡ no_front
  front-end h = rw (drop_of_length-le rows h)

-- a front with no prefix and nothing before it
pub front_none : (f : Front) → f.prefix ≡ None → f.from ≡ 0 → f ≡ no_front
front_none f p q = same p q
  where
    same : {a : Option ℕ} {b : ℕ} → a ≡ None → b ≡ 0 → ◌≡◌ {A = Front} (record { prefix = a; from = b }) no_front
    same p q = cc

-- a form without a rest leaves nothing
pub rest_nothing : (w form : List ℕ) → None ≡ rest_of w form → leaves w form ≡ false
unfolding rest_of
rest_nothing w form e = go (leaves w form) refl e
  where
    go : (b : Bool) → leaves w form ≡ b → None ≡ pick b (Some (length form)) None → leaves w form ≡ false
    go true l q = let z : ◌≡◌ {A = ℕ} 0 1 = cc in absurd (omega arith)
    go false l q = l
