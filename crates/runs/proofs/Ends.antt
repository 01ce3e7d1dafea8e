-- Laws of `ends_in`: what stands before the tail. Crates that strip texts from an end cite them. Assumes nothing.
use mathlib.Core.Path.{◌≡◌, refl, sym, ap, ◌∙◌}
use mathlib.Core.Bool.{Bool, true, false}
use mathlib.Core.List.{List, ◌++◌}
use Prim.Native.Nat.{ℕ, ◌-◌, ◌<◌, ◌≤◌}
use native.Mathlib.Omega.{arith}
use lib.ListN.{length, take, drop, get_or, length-append, take-append-drop}
use lib.Seq.{drop_at}
use lib.Dec.{leb}
use borrow.Author.Tests.{le-leb, lt-leb, leb-true}
use Rattle.runs.specs.Runs.{same_text, ends_in}
use Rattle.runs.proofs.Ordered.{same_true, same_refl}
use Rattle.runs.proofs.Begins.{and_left, and_right}

pub ends_here : (t s : List ℕ) → length t ≤ length s → ends_in t s ≡ same_text (drop (length s - length t) s) t
ends_here t s h = rw (le-leb (length t) (length s) h)

pub ends-short : (t s : List ℕ) → length s < length t → ends_in t s ≡ false
ends-short t s h = rw (lt-leb (length t) (length s) h)

pub ends-fits : (t s : List ℕ) → ends_in t s ≡ true → length t ≤ length s
ends-fits t s e = leb-true (length t) (length s) (and_left _ _ e)

pub ends_split : (t s : List ℕ) → ends_in t s ≡ true → s ≡ take (length s - length t) s ++ t
ends_split t s e =
    let n = length s - length t in
    let p : drop n s ≡ t = same_true (drop n s) t (and_right (leb (length t) (length s)) _ e) in
    sym (take-append-drop n s) ∙ ap (λ (l : List ℕ). take n s ++ l) p

pub split_ends : (p t : List ℕ) → ends_in t (p ++ t) ≡ true
split_ends p t =
    let h : length t ≤ length (p ++ t) = simp length-append (omega arith) in
    let n : length p ≡ length (p ++ t) - length t = simp length-append (omega arith) in
    ends_here t (p ++ t) h ∙ rw (drop_at p t _ n) (same_refl t)

-- a byte that differs
pub same_differs : (a b : List ℕ) (i : ℕ) → (get_or a i 0 ≡ get_or b i 0 → ⊥) → same_text a b ≡ false
same_differs a b i h = go (same_text a b) refl
  where
    go : (r : Bool) → same_text a b ≡ r → r ≡ false
    go false e = refl
    go true e = absurd (h (ap (λ (l : List ℕ). get_or l i 0) (same_true a b e)))

pub same_lengths : (a b : List ℕ) → (length a ≡ length b → ⊥) → same_text a b ≡ false
same_lengths a b h = go (same_text a b) refl
  where
    go : (r : Bool) → same_text a b ≡ r → r ≡ false
    go false e = refl
    go true e = absurd (h (ap length (same_true a b e)))
