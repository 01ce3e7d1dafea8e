-- The tokens of a text stand in its order, three bytes or more each and one at least between two: so they do not overlap, and there are
-- few. A list that does so is settled by its members. Assumes nothing.
use Prim.Native.Nat.{ℕ, ◌+◌, ◌*◌, ◌≤◌, ◌<◌}
use native.Mathlib.Omega.{arith}
use mathlib.Core.Path.{◌≡◌, refl, sym, ap, subst, ◌∙◌}
use mathlib.Core.Logic.{◌⊎◌, inl, inr, ⊎_elim}
use mathlib.Core.Bool.{Bool, true, false, ◌||◌}
use mathlib.Core.List.Memᴰ
use mathlib.Core.List.{List, [], ◌∷◌, Memᴰ}
use lib.ListN.{length}
use Rattle.runs.specs.Runs.{pick}
use Rattle.tokenizer.specs.Scalars.{Character, scalar}
use Rattle.tokenizer.specs.Parting.{parts, devanagari}
use Rattle.tokenizer.specs.Tokens.{Each, Span, InOrder}
use Rattle.tokenizer.specs.Scanned.{kept, scan}
use Rattle.text.proofs.Grammar.{no}
use Rattle.tokenizer.proofs.Parsed.{told, has-bytes, three}
use Rattle.tokenizer.proofs.Edges.{total, total-cons, total_nil}

-- from byte lo on, up to byte hi: three bytes or more each, and one more before the next
abbrev Apart : ℕ → ℕ → List Span → Type 0
Apart lo hi [] = lo ≤ hi + 1
Apart lo hi (t ∷ ts) = (lo ≤ t.start) × (t.start + 3 ≤ t.end) × (t.end ≤ hi) × Apart (t.end + 1) hi ts

lower : (ts : List Span) (lo mid hi : ℕ) → lo ≤ mid → Apart mid hi ts → Apart lo hi ts
lower [] lo mid hi h p = omega arith
lower (t ∷ ts) lo mid hi h p = (omega arith, p.1, p.2, p.3)

keep : (held : Bool) (a e lo hi : ℕ) (ts : List Span) → a ≤ e → e < lo → e ≤ hi → (held ≡ true → a + 3 ≤ e) → Apart lo hi ts → Apart a hi (kept held a e ts)
keep true a e lo hi ts h l m k p = (omega arith, k refl, m, lower ts (e + 1) lo hi (omega arith) p)
keep false a e lo hi ts h l m k p = lower ts a lo hi (omega arith) p

held_three : (held d : Bool) (a e n : ℕ) → (held ≡ true → a + 3 ≤ e) → (d ≡ true → 3 ≤ n) → a ≤ e → (held || d) ≡ true → a + 3 ≤ e + n
held_three true d a e n h k l q = let p = h refl in omega arith
held_three false d a e n h k l q = let p = k q in omega arith

scan_apart : (cs : List (List ℕ)) (a e hi : ℕ) (held : Bool) → Each Character cs → a ≤ e → (held ≡ true → a + 3 ≤ e) → hi ≡ e + total cs → Apart a hi (scan a e held (told cs))
unfolding scan told
scan_apart [] a e hi held k h l q = let z = total_nil in keep held a e (e + 1) hi [] h (omega arith) (omega arith) l (omega arith)
scan_apart (c ∷ cs) a e hi held k h l q =
    let t = total-cons c cs in
    let n = has-bytes c k.0 in
    by (parts (scalar c)) (scan_apart cs (e + length c) (e + length c) hi false k.1 (omega arith) (λ z. no refl z) (omega arith))
    (scan_apart cs a (e + length c) hi (held || devanagari (scalar c)) k.1 (omega arith) (held_three held _ a e (length c) l (three c k.0) h) (omega arith))
  where
    by : (x : Bool) → Apart (e + length c) hi (scan (e + length c) (e + length c) false (told cs)) → Apart a hi (scan a (e + length c) (held || devanagari (scalar c)) (told cs))
        → Apart a hi (pick x (kept held a e (scan (e + length c) (e + length c) false (told cs))) (scan a (e + length c) (held || devanagari (scalar c)) (told cs)))
    by true i j =
        let t = total-cons c cs in
        let n = has-bytes c k.0 in
        keep held a e (e + length c) hi _ h (omega arith) (omega arith) l i
    by false i j = j

pub ordered : (ts : List Span) (lo hi : ℕ) → Apart lo hi ts → InOrder lo ts
ordered [] lo hi p = tt
ordered (t ∷ ts) lo hi p = (p.0, omega (arith, p.1), ordered ts t.end hi (lower ts t.end (t.end + 1) hi (omega arith) p.3))

counted : (ts : List Span) (lo hi : ℕ) → Apart lo hi ts → 4 * length ts + lo ≤ hi + 1
counted [] lo hi p = omega arith
counted (t ∷ ts) lo hi p = let k = counted ts (t.end + 1) hi p.3 in omega (arith, p.0, p.1)

module _ (cs : List (List ℕ)) (k : Each Character cs) where
  all_apart_lem : Apart 0 (total cs) (scan 0 0 false (told cs))
  all_apart_lem = scan_apart cs 0 0 (total cs) false k (omega arith) (λ z. no refl z) (omega arith)

  pub in_order_lem : InOrder 0 (scan 0 0 false (told cs))
  in_order_lem = ordered (scan 0 0 false (told cs)) 0 (total cs) all_apart_lem

  pub few : 4 * length (scan 0 0 false (told cs)) ≤ total cs + 1
  few = let c = counted (scan 0 0 false (told cs)) 0 (total cs) all_apart_lem in omega arith

-- the members of a list in order begin where it begins or later
from-there : (ts : List Span) (lo : ℕ) (t : Span) → InOrder lo ts → Memᴰ t ts → lo ≤ t.start
from-there [] lo t o m = absurd (Memᴰ.not-nil m)
from-there (u ∷ ts) lo t o m =
    ⊎_elim (λ e. subst (λ (x : Span). lo ≤ x.start) (sym e) o.0) (λ k. let h = from-there ts u.end t o.2 k in omega (arith, o.0, o.1)) (Memᴰ.cases_cons m)

-- two lists in order with the same members are the same
pub same_members : (xs ys : List Span) (lo mo : ℕ) → InOrder lo xs → InOrder mo ys → ((t : Span) → Memᴰ t xs → Memᴰ t ys) → ((t : Span) → Memᴰ t ys → Memᴰ t xs) → xs ≡ ys
same_members [] [] lo mo o p f g = refl
same_members [] (y ∷ ys) lo mo o p f g = absurd (Memᴰ.not-nil (g y (Memᴰ.head refl)))
same_members (x ∷ xs) [] lo mo o p f g = absurd (Memᴰ.not-nil (f x (Memᴰ.head refl)))
same_members (x ∷ xs) (y ∷ ys) lo mo o p f g =
    let e : x ≡ y = firsts (Memᴰ.cases_cons (f x (Memᴰ.head refl))) (Memᴰ.cases_cons (g y (Memᴰ.head refl))) in
    both e
    (same_members xs ys x.end y.end o.2 p.2
    (λ t m. ⊎_elim (λ q. absurd (late xs x y t o (sym e) m q)) (λ k. k) (Memᴰ.cases_cons (f t (Memᴰ.tail m))))
    (λ t m. ⊎_elim (λ q. absurd (late ys y x t p e m q)) (λ k. k) (Memᴰ.cases_cons (g t (Memᴰ.tail m)))))
  where
    firsts : (x ≡ y) ⊎ Memᴰ x ys → (y ≡ x) ⊎ Memᴰ y xs → x ≡ y
    firsts (inl q) r = q
    firsts (inr m) (inl q) = sym q
    firsts (inr m) (inr n) =
        let h = from-there ys y.end x p.2 m in
        let k = from-there xs x.end y o.2 n in
        absurd (omega (arith, o.1, p.1))

    both : {a b : Span} {as₁ bs₁ : List Span} → a ≡ b → as₁ ≡ bs₁ → ◌≡◌ {A = List Span} (a ∷ as₁) (b ∷ bs₁)
    both q r = cc

    late : {lo : ℕ} (zs : List Span) (z w t : Span) → InOrder lo (z ∷ zs) → w ≡ z → Memᴰ t zs → t ≡ w → ⊥
    late zs z w t o q m r =
        let h = from-there zs z.end t o.2 m in
        let s : t.start ≡ z.start = ap (λ (x : Span). x.start) (r ∙ q) in
        omega (arith, o.1)
