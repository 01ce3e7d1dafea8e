-- Rows of one width, stored one after the other in a lent buffer. The proofs of the loops that store readings and candidates cite
-- these. Assumes nothing.
use Prim.Native.Nat.{ℕ, suc, ◌+◌, ◌-◌, ◌*◌, ◌<◌, ◌≤◌}
use native.Mathlib.Omega.{arith}
use native.Mathlib.Nat.{mul-suc, mul-zero}
use native.Mathlib.Numerals.{add-one}
use mathlib.Core.Path.{◌≡◌, refl, sym, ap, ◌∙◌}
use mathlib.Core.Bool.{true, false}
use mathlib.Core.List.{List, [], ◌∷◌, ◌++◌, append_assoc, append-nil}
use lib.ListN.{length, take, drop, get_or, length-append, length-take, length-drop, drop_of_length-le}
use lib.Seq.{length-take-le, take_all, take-suc, take_at, drop_at, drop-drop}
use lib.Dec.{ltb}
use borrow.Rule.Slice.PartMut.{mid_of, put_mid}
use borrow.Author.Tests.{lt-ltb, le-ltb}
use Rattle.refusals.specs.declared.Refusal.TheVariants.{OutputTooShort}
use Rattle.exports.specs.Codes.{answered, refusal_code}
use Rattle.exports.specs.Rows.{each, rows_filled}

module _ {A : Type 0} (bytes : A → List ℕ) where
  each_append : (xs ys : List A) → each bytes (xs ++ ys) ≡ each bytes xs ++ each bytes ys
  unfolding each
  each_append [] ys = refl
  each_append (x ∷ xs) ys = ap (λ (l : List ℕ). bytes x ++ l) (each_append xs ys) ∙ sym (append_assoc (bytes x) (each bytes xs) (each bytes ys))

  each-one : (x : A) → each bytes (x ∷ []) ≡ bytes x
  unfolding each
  each-one x = append-nil (bytes x)

  module _ (width : ℕ) (wide : (x : A) → length (bytes x) ≡ width) where
    pub each-length : (xs : List A) → length (each bytes xs) ≡ width * length xs
    unfolding each
    each-length [] = sym (mul-zero width)
    each-length (x ∷ xs) =
        let l = length-append (bytes x) (each bytes xs) in
        let w = wide x in
        let r = each-length xs in
        let m = mul-suc width (length xs) in
        omega arith

    -- nothing is stored
    pub store_none : (xs : List A) (out : List ℕ) → out ≡ each bytes (take 0 xs) ++ drop (width * 0) out
    unfolding each
    store_none xs out = ap (λ (k : ℕ). drop k out) (sym (mul-zero width))

    -- row i, stored behind the rows before it: old holds those, and `part` is what the function that stores a row made of the rest
    pub store_next : (xs : List A) (i : ℕ) (d : A) (out old part : List ℕ) → i < length xs → old ≡ each bytes (take i xs) ++ drop (width * i) out →
        part ≡ bytes (get_or xs i d) ++ drop width (mid_of (width * i) (length old - width * i) old) →
        put_mid (width * i) (length old - width * i) old part ≡ each bytes (take (i + 1) xs) ++ drop (width * (i + 1)) out
    store_next xs i d out old part h e p =
        let front = each bytes (take i xs) in
        let rest = drop (width * i) out in
        let row = bytes (get_or xs i d) in
        let k = length old - width * i in
        let n : length front ≡ width * i = each-length (take i xs) ∙ ap (λ (j : ℕ). width * j) (length-take-le i xs (omega arith)) in
        let t : take (width * i) old ≡ front = ap (λ (l : List ℕ). take (width * i) l) e ∙ take_at front rest (width * i) n in
        let u : drop (width * i) old ≡ rest = ap (λ (l : List ℕ). drop (width * i) l) e ∙ drop_at front rest (width * i) n in
        let s : length (drop (width * i) old) ≤ k = omega (arith, length-drop (width * i) old) in
        let m : mid_of (width * i) k old ≡ rest = take_all k (drop (width * i) old) s ∙ u in
        let z : drop k (drop (width * i) old) ≡ [] = drop_of_length-le (drop (width * i) old) s in
        let a : width * i + width ≡ width * (i + 1) = rw (add-one, mul-suc) (omega arith) in
        let q : part ≡ row ++ drop (width * (i + 1)) out =
        p ∙ ap (λ (l : List ℕ). row ++ drop width l) m ∙ ap (λ (l : List ℕ). row ++ l) (drop-drop width (width * i) out ∙ ap (λ (j : ℕ). drop j out) a) in
        let v : i + 1 ≡ suc i = omega arith in
        let f : each bytes (take (i + 1) xs) ≡ front ++ row =
        ap (λ (j : ℕ). each bytes (take j xs)) v ∙ ap (each bytes) (take-suc xs i d h) ∙ each_append (take i xs) (get_or xs i d ∷ [])
        ∙ ap (λ (l : List ℕ). front ++ l) (each-one (get_or xs i d)) in
        ap (λ (l : List ℕ). take (width * i) old ++ (part ++ l)) z
        ∙ ap (λ (l : List ℕ). take (width * i) old ++ l) (append-nil part)
        ∙ ap (λ (l : List ℕ). l ++ part) t
        ∙ ap (λ (l : List ℕ). front ++ l) q
        ∙ sym (append_assoc front row (drop (width * (i + 1)) out))
        ∙ ap (λ (l : List ℕ). l ++ drop (width * (i + 1)) out) (sym f)

  -- what is handed back and left: too short a buffer, and one that is long enough
  module _ (width n : ℕ) (rows : List A) (out : List ℕ) (counted : n ≡ length rows) where
    pub rows_short : length out < width * n → (refusal_code OutputTooShort ≡ (rows_filled width bytes rows out).code) × (out ≡ (rows_filled width bytes rows out).buffer)
    rows_short h =
        let t : ltb (length out) (width * length rows) ≡ true = ap (λ (k : ℕ). ltb (length out) (width * k)) (sym counted) ∙ lt-ltb (length out) (width * n) h in
        rw t (refl, refl)

    pub rows_long : (later : List ℕ) → width * n ≤ length out → later ≡ each bytes rows ++ drop (width * n) out →
        (answered n ≡ (rows_filled width bytes rows out).code) × (later ≡ (rows_filled width bytes rows out).buffer)
    rows_long later h e =
        let t : ltb (length out) (width * length rows) ≡ false = ap (λ (k : ℕ). ltb (length out) (width * k)) (sym counted) ∙ le-ltb (length out) (width * n) h in
        rw t (ap (λ (k : ℕ). answered k) counted, e ∙ ap (λ (k : ℕ). each bytes rows ++ drop (width * k) out) counted)

-- so many elements can be taken as there are
pub taken-few : {A : Type 0} (xs : List A) (n : ℕ) → n ≡ length (take n xs) → n ≤ length xs
taken-few xs n e = let l = length-take n xs in omega arith
