-- Parts of UTF-8 text that are UTF-8: what stands before a byte that begins a character, what follows such text, and the two joined.
-- Cited for every remainder. Assumes nothing.
use mathlib.Core.Path.{◌≡◌, refl, ap, sym, ◌∙◌}
use mathlib.Core.Bool.{Bool, true, false, ◌&&◌, ◌||◌}
use mathlib.Core.List.{List, [], ◌∷◌, ◌++◌}
use Prim.Native.Nat.{ℕ, ◌≤◌}
use native.Mathlib.Omega.{arith}
use lib.Dec.{eqb, leb, ltb}
use borrow.Author.Tests.{eq-eqb, leb-true, ltb-true, le-leb, lt-leb}
use Rattle.runs.specs.Runs.{pick}
use Rattle.text.specs.Utf8.{Range, within, utf8_char, Owed, owes, misfit, opened, after, run, whole, is_utf8}
use Rattle.text.specs.Characters.{opens}
use Rattle.runs.proofs.Begins.{and_left, and_right}

-- What is owed lies among the bytes 80 to BF, at every state that text reaches.

abbrev in_tail : Range → Bool
in_tail r = leb 0x80 r.low && leb r.high 0xBF

abbrev all_in_tail : List Range → Bool
all_in_tail [] = true
all_in_tail (r ∷ rs) = in_tail r && all_in_tail rs

abbrev steady : Owed → Bool
steady (owes rs) = all_in_tail rs
steady misfit = true

-- a row of the grammar: its first range lies outside those bytes, the others among them
abbrev sound : List (List Range) → Bool
sound [] = true
sound ([] ∷ rows) = sound rows
sound ((r ∷ rs) ∷ rows) = (ltb r.high 0x80 || ltb 0xBF r.low) && (all_in_tail rs && sound rows)

and-false : (a : Bool) → (a && false) ≡ false
and-false true = refl
and-false false = refl

pick_steady : (b : Bool) (rs : List Range) (o : Owed) → all_in_tail rs ≡ true → steady o ≡ true → steady (pick b (owes rs) o) ≡ true
pick_steady true rs o p q = p
pick_steady false rs o p q = q

opened_steady : (rows : List (List Range)) → sound rows ≡ true → (b : ℕ) → steady (opened rows b) ≡ true
unfolding opened
opened_steady [] t b = refl
opened_steady ([] ∷ rows) t b = opened_steady rows t b
opened_steady ((r ∷ rs) ∷ rows) t b =
    let u = and_right (ltb r.high 0x80 || ltb 0xBF r.low) (all_in_tail rs && sound rows) t in
    pick_steady (within r b) rs (opened rows b) (and_left (all_in_tail rs) (sound rows) u)
    (opened_steady rows (and_right (all_in_tail rs) (sound rows) u) b)

rows_sound : sound utf8_char ≡ true
unfolding utf8_char
rows_sound = refl

after_steady : (o : Owed) (b : ℕ) → steady o ≡ true → steady (after o b) ≡ true
unfolding after
after_steady misfit b p = refl
after_steady (owes []) b p = opened_steady utf8_char rows_sound b
after_steady (owes (r ∷ rs)) b p = pick_steady (within r b) rs misfit (and_right (in_tail r) (all_in_tail rs) p) refl

run_steady : (o : Owed) (s : List ℕ) → steady o ≡ true → steady (run o s) ≡ true
unfolding run
run_steady o [] p = p
run_steady o (b ∷ s) p = run_steady (after o b) s (after_steady o b p)

run-append : (o : Owed) (a s : List ℕ) → run o (a ++ s) ≡ run (run o a) s
unfolding run
run-append o [] s = refl
run-append o (b ∷ a) s = run-append (after o b) a s

run-misfit : (s : List ℕ) → run misfit s ≡ misfit
unfolding run after
run-misfit [] = refl
run-misfit (b ∷ s) = run-misfit s

-- s begins with a byte that begins a character, or is empty
abbrev pub begun : List ℕ → Bool
begun [] = true
begun (b ∷ s) = eqb (opens b) 1

never : {P : Type 0} → ◌≡◌ {A = Bool} false true → P
never e = let z : ◌≡◌ {A = ℕ} 0 1 = cc in absurd (omega arith)

-- a byte that is owed goes on with a character
goes_on_lem : (r : Range) (b : ℕ) → in_tail r ≡ true → within r b ≡ true → eqb (opens b) 1 ≡ false
unfolding within opens
goes_on_lem r b p q =
    let l = leb-true 0x80 r.low (and_left (leb 0x80 r.low) (leb r.high 0xBF) p) in
    let h = leb-true r.high 0xBF (and_right (leb 0x80 r.low) (leb r.high 0xBF) p) in
    let m = leb-true r.low b (and_left (leb r.low b) (leb b r.high) q) in
    let n = leb-true b r.high (and_right (leb r.low b) (leb b r.high) q) in
    rw (le-leb 0x80 b (omega arith), le-leb b 0xBF (omega arith))

-- text that is whole in the end is whole before each byte that begins a character
whole_before : (o : Owed) (s : List ℕ) → steady o ≡ true → whole (run o s) ≡ true → begun s ≡ true → whole o ≡ true
unfolding run after
whole_before o [] p e b = e
whole_before misfit (c ∷ s) p e b = never (rw (run-misfit s) at e)
whole_before (owes []) (c ∷ s) p e b = refl
whole_before (owes (r ∷ rs)) (c ∷ s) p e b = go (within r c) refl e
  where
    go : (t : Bool) → within r c ≡ t → whole (run (pick t (owes rs) misfit) s) ≡ true → false ≡ true
    go true q f = sym (goes_on_lem r c (and_left (in_tail r) (all_in_tail rs) p) q) ∙ b
    go false q f = rw (run-misfit s) at f

-- no character begins with one of the bytes 80 to BF
outside : (r : Range) (b : ℕ) → (ltb r.high 0x80 || ltb 0xBF r.low) ≡ true → 0x80 ≤ b → b ≤ 0xBF → within r b ≡ false
unfolding within
outside r b t l h = go (ltb r.high 0x80) refl t
  where
    go : (u : Bool) → ltb r.high 0x80 ≡ u → (u || ltb 0xBF r.low) ≡ true → (leb r.low b && leb b r.high) ≡ false
    go true e f =
        let k = ltb-true r.high 0x80 e in
        rw (lt-leb b r.high (omega arith)) (and-false (leb r.low b))
    go false e f =
        let k = ltb-true 0xBF r.low f in
        rw (lt-leb r.low b (omega arith))

opened-none : (rows : List (List Range)) → sound rows ≡ true → (b : ℕ) → 0x80 ≤ b → b ≤ 0xBF → opened rows b ≡ misfit
unfolding opened
opened-none [] t b l h = refl
opened-none ([] ∷ rows) t b l h = opened-none rows t b l h
opened-none ((r ∷ rs) ∷ rows) t b l h =
    let u = and_right (ltb r.high 0x80 || ltb 0xBF r.low) (all_in_tail rs && sound rows) t in
    rw (outside r b (and_left (ltb r.high 0x80 || ltb 0xBF r.low) (all_in_tail rs && sound rows) t) l h)
    (opened-none rows (and_right (all_in_tail rs) (sound rows) u) b l h)

opens_is : (b : ℕ) → opens b ≡ pick (leb 0x80 b && leb b 0xBF) 0 1
unfolding opens within
opens_is b = refl

-- a byte begins a character, or it is one of 80 to BF
pub by_byte : {P : Type 0} (b : ℕ) → (opens b ≡ 1 → P) → (0x80 ≤ b → b ≤ 0xBF → opens b ≡ 0 → P) → P
by_byte {P} b begins goes = go (leb 0x80 b) (leb b 0xBF) refl refl
  where
    go : (u v : Bool) → leb 0x80 b ≡ u → leb b 0xBF ≡ v → P
    go true true p q = goes (leb-true 0x80 b p) (leb-true b 0xBF q) (opens_is b ∙ rw (p, q))
    go true false p q = begins (opens_is b ∙ rw (p, q))
    go false v p q = begins (opens_is b ∙ rw p)

-- UTF-8 text begins with a byte that begins a character
pub utf8_begun : (s : List ℕ) → is_utf8 s ≡ true → begun s ≡ true
unfolding is_utf8 run after
utf8_begun [] e = refl
utf8_begun (b ∷ s) e = by_byte b (λ o. eq-eqb (opens b) 1 o) (λ l h o. never (rw (opened-none utf8_char rows_sound b l h, run-misfit s) at e))

-- The parts.

-- what stands before a byte that begins a character
pub utf8_before : (a s : List ℕ) → is_utf8 (a ++ s) ≡ true → begun s ≡ true → is_utf8 a ≡ true
unfolding is_utf8
utf8_before a s e b = whole_before (run (owes []) a) s (run_steady (owes []) a refl) (rw (run-append (owes []) a s) at e) b

-- what stands before text, as Rust's `strip_suffix` leaves it
pub utf8_front : (a s : List ℕ) → is_utf8 (a ++ s) ≡ true → is_utf8 s ≡ true → is_utf8 a ≡ true
utf8_front a s e f = utf8_before a s e (utf8_begun s f)

whole_owes : (o : Owed) → whole o ≡ true → o ≡ owes []
whole_owes (owes []) e = refl
whole_owes (owes (r ∷ rs)) e = never e
whole_owes misfit e = never e

-- after text, what follows is read as if it stood alone
run-after : (a s : List ℕ) → is_utf8 a ≡ true → is_utf8 (a ++ s) ≡ is_utf8 s
unfolding is_utf8
run-after a s e = ap whole (run-append (owes []) a s ∙ ap (λ (o : Owed). run o s) (whole_owes (run (owes []) a) e))

-- what follows text, as Rust's `strip_prefix` leaves it
pub utf8_back : (a s : List ℕ) → is_utf8 a ≡ true → is_utf8 (a ++ s) ≡ true → is_utf8 s ≡ true
utf8_back a s e f = sym (run-after a s e) ∙ f

-- text after text
pub utf8_join : (a s : List ℕ) → is_utf8 a ≡ true → is_utf8 s ≡ true → is_utf8 (a ++ s) ≡ true
utf8_join a s e f = run-after a s e ∙ f
