-- The needs of letters, case by case, and what is left once letters are read. The proofs of `closes_at` and `are_letters` cite these.
-- Assumes nothing.
use Prim.Native.Nat.{ℕ, suc, ◌-◌, ◌≤◌}
use native.Mathlib.Omega.{arith}
use mathlib.Core.Path.{◌≡◌, refl, sym, ap, ◌∙◌}
use mathlib.Core.Bool.{Bool, true, false, not, ◌&&◌, ◌||◌, and-false}
use mathlib.Core.List.{List, [], ◌∷◌}
use lib.ListN.{length, drop, length-drop}
use lib.Dec.{ltb, eqb}
use borrow.Author.Tests.{ne_eqb}
use Rattle.std.specs.Int.{from_bool}
use Rattle.runs.specs.Runs.{same_text, pick}
use Rattle.sheet.specs.Letters.{has, past, after_flags, tag_of, is_tagged, letters_of, well_kept, closes, is_letters}

-- the needs over plain Bools: w, h, v, p, e, and whether there is a tag
abbrev kept : Bool → Bool → Bool → Bool → Bool → Bool → Bool
kept w h v p e t = (w || h) && (h || not (v || p || e || t)) && (p || not e)

kept_headed : (w v p e t : Bool) → kept w true v p e t ≡ (p || not e)
kept_headed true v p e t = refl
kept_headed false v p e t = refl

-- a run is empty where its length is 0, and only there
none_left : (x : List ℕ) → eqb (length x) 0 ≡ same_text x []
none_left [] = refl
none_left (b ∷ x) = ne_eqb (suc (length x)) 0 (λ e. omega arith)

-- where a tag stands, it is all where there is one letter
tagged_one : (x : List ℕ) → is_tagged (tag_of x) ≡ true → eqb (length x) 1 ≡ same_text (pick (is_tagged (tag_of x)) (drop 1 x) x) []
unfolding tag_of
tagged_one [] t = let z : ◌≡◌ {A = ℕ} 0 1 = cc in absurd (omega arith)
tagged_one (b ∷ []) t = rw t
tagged_one (b ∷ c ∷ x) t = rw t (ne_eqb (suc (suc (length x))) 1 (λ e. omega arith))

-- what is left at the place i: one letter where a tag stands, none where none does
pub closes_by : (v : List ℕ) (i n : ℕ) (t : Bool) → t ≡ is_tagged (tag_of (drop i v)) → n ≡ from_bool t → eqb (length v - i) n ≡ closes (drop i v)
closes_by v i n true e f = rw (f, sym (length-drop i v)) (tagged_one (drop i v) (sym e))
closes_by v i n false e f = rw (f, sym (length-drop i v)) (none_left (drop i v) ∙ rw (sym e))

-- all has been read where the place is the end
pub all_read : (v : List ℕ) (i : ℕ) → i ≤ length v → eqb i (length v) ≡ eqb (length v - i) 0
all_read v i h = grind arith

-- the letters after w and h, and what is left of them
abbrev after_head : List ℕ → List ℕ
after_head x = past 0x65 (past 0x70 (past 0x76 x))

abbrev kept_after : Bool → Bool → List ℕ → Bool
kept_after w h x = kept w h (has 0x76 x) (has 0x70 (past 0x76 x)) (has 0x65 (past 0x70 (past 0x76 x))) (is_tagged (tag_of (after_head x)))

letters-kept : (v : List ℕ) → is_letters v ≡ (closes (after_flags v) && kept_after (has 0x77 v) (has 0x68 (past 0x77 v)) (past 0x68 (past 0x77 v)))
unfolding is_letters letters_of well_kept
letters-kept v = refl

lost : (c k : Bool) → k ≡ false → (c && k) ≡ false
lost c k e = ap (λ (x : Bool). c && x) e ∙ and-false c

-- w stands alone: nothing may follow it
left_over : (c v p e t : Bool) → (v ≡ false → p ≡ false → e ≡ false → t ≡ false → c ≡ false) → (c && kept true false v p e t) ≡ false
left_over c true p e t f = and-false c
left_over c false true e t f = and-false c
left_over c false false true t f = and-false c
left_over c false false false true f = and-false c
left_over c false false false false f = ap (λ (y : Bool). y && true) (f refl refl refl refl)

nothing_else : (x : List ℕ) → (closes (after_head x) && kept_after true false x) ≡ eqb (length x) 0
unfolding tag_of
nothing_else [] = refl
nothing_else (b ∷ x) =
    left_over (closes (after_head (b ∷ x))) (has 0x76 (b ∷ x)) (has 0x70 (past 0x76 (b ∷ x))) (has 0x65 (past 0x70 (past 0x76 (b ∷ x)))) (is_tagged (tag_of (after_head (b ∷ x)))) more ∙ sym (none_left (b ∷ x))
  where
    more : has 0x76 (b ∷ x) ≡ false → has 0x70 (past 0x76 (b ∷ x)) ≡ false → has 0x65 (past 0x70 (past 0x76 (b ∷ x))) ≡ false
        → is_tagged (tag_of (after_head (b ∷ x))) ≡ false → closes (after_head (b ∷ x)) ≡ false
    more j k l m =
        let first : past 0x76 (b ∷ x) ≡ b ∷ x = ap (λ (y : Bool). pick y x (b ∷ x)) j in
        let second : past 0x70 (past 0x76 (b ∷ x)) ≡ b ∷ x = ap (λ (y : Bool). pick y (drop 1 (past 0x76 (b ∷ x))) (past 0x76 (b ∷ x))) k ∙ first in
        let third : after_head (b ∷ x) ≡ b ∷ x = ap (λ (y : Bool). pick y (drop 1 (past 0x70 (past 0x76 (b ∷ x)))) (past 0x70 (past 0x76 (b ∷ x)))) l ∙ second in
        ap (λ (y : Bool). same_text (pick y (drop 1 (after_head (b ∷ x))) (after_head (b ∷ x))) []) m ∙ ap (λ (y : List ℕ). same_text y []) third

-- without h: no letters without w, and nothing but w with it
module _ (v : List ℕ) (h : has 0x68 (past 0x77 v) ≡ false) where
  pub neither : has 0x77 v ≡ false → false ≡ is_letters v
  neither w =
      sym (letters-kept v ∙ lost (closes (after_flags v)) _ (ap (λ (y : Bool). kept_after y (has 0x68 (past 0x77 v)) (past 0x68 (past 0x77 v))) w
      ∙ ap (λ (y : Bool). kept_after false y (past 0x68 (past 0x77 v))) h))

  pub alone : has 0x77 v ≡ true → eqb (length (past 0x77 v)) 0 ≡ is_letters v
  alone w =
      let x = past 0x77 v in
      let n : past 0x68 x ≡ x = ap (λ (y : Bool). pick y (drop 1 x) x) h in
      sym (letters-kept v
      ∙ ap (λ (y : Bool). closes (after_flags v) && kept_after y (has 0x68 x) (past 0x68 x)) w
      ∙ ap (λ (y : Bool). closes (after_flags v) && kept_after true y (past 0x68 x)) h
      ∙ ap (λ (y : List ℕ). closes (after_head y) && kept_after true false y) n
      ∙ nothing_else x)

-- with h: e needs p, and nothing is left but a tag
pub with_head : (v : List ℕ) → has 0x68 (past 0x77 v) ≡ true → let x = past 0x68 (past 0x77 v) in
    is_letters v ≡ (closes (after_flags v) && (has 0x70 (past 0x76 x) || not (has 0x65 (past 0x70 (past 0x76 x)))))
with_head v h =
    let x = past 0x68 (past 0x77 v) in
    letters-kept v ∙ ap (λ (y : Bool). closes (after_flags v) && kept_after (has 0x77 v) y x) h
    ∙ ap (λ (y : Bool). closes (after_flags v) && y) (kept_headed (has 0x77 v) (has 0x76 x) (has 0x70 (past 0x76 x)) (has 0x65 (past 0x70 (past 0x76 x))) (is_tagged (tag_of (after_head x))))

-- e does not stand where its place is where p's is
pub not_past : (a b : ℕ) → a ≤ b → eqb a b ≡ not (ltb a b)
not_past a b h = grind arith

pub without_p : (c p e a : Bool) → c ≡ true → p ≡ false → e ≡ a → (c && (p || not e)) ≡ not a
without_p c p e a h i j = rw (h, i, j)
