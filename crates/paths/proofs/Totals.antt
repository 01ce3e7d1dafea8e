-- Numbers counted for texts one by one: `total` of Visits and `total_rows` of Weighed. Assumes nothing.
use Prim.Native.Nat.{ℕ, zero, suc, ◌+◌, ◌*◌, ◌-◌, ◌<◌, ◌≤◌}
use native.Mathlib.Nat.{mul-add, mul-one, zero-add, add-zero}
use native.Mathlib.Numerals.{add-one}
use native.Mathlib.Omega.{arith}
use mathlib.Core.Path.{◌≡◌, refl, sym, ap, ap₂, ◌∙◌}
use mathlib.Core.Bool.{Bool, true, false}
use mathlib.Core.List.{List, [], ◌∷◌, ◌++◌, Memᴰ}
use lib.ListN.{length, drop, get_or}
use Rattle.runs.specs.Runs.{pick}
use Rattle.tables.proofs.Passing.{passing}
use Rattle.paths.specs.Visits.{total}
use Rattle.paths.specs.Weighed.{total_rows}

pub total-none : (f : List ℕ → ℕ) → total f [] ≡ 0
unfolding total
total-none f = refl

pub total-one : (f : List ℕ → ℕ) (t : List ℕ) → total f (t ∷ []) ≡ f t
unfolding total
total-one f t = omega arith

pub total-append : (f : List ℕ → ℕ) (xs ys : List (List ℕ)) → total f (xs ++ ys) ≡ total f xs + total f ys
unfolding total
total-append f [] ys = omega arith
total-append f (x ∷ xs) ys = let e = total-append f xs ys in omega arith

pub total-add : (f g : List ℕ → ℕ) (ts : List (List ℕ)) → total (λ t. f t + g t) ts ≡ total f ts + total g ts
unfolding total
total-add f g [] = refl
total-add f g (t ∷ ts) = let e = total-add f g ts in omega arith

pub total_same : (f g : List ℕ → ℕ) (ts : List (List ℕ)) → ((t : List ℕ) → Memᴰ t ts → f t ≡ g t) → total f ts ≡ total g ts
unfolding total
total_same f g [] e = refl
total_same f g (t ∷ ts) e = ap₂ (λ (a b : ℕ). a + b) (e t (Memᴰ.head refl)) (total_same f g ts (λ x m. e x (Memᴰ.tail m)))

-- the same row by row
pub total-rows : (f g : List ℕ → ℕ) (ts : List (List ℕ)) → ((k : ℕ) → k < length ts → f (get_or ts k []) ≡ g (get_or ts k [])) → total f ts ≡ total g ts
unfolding total
total-rows f g [] e = refl
total-rows f g (t ∷ ts) e = ap₂ (λ (a b : ℕ). a + b) (e 0 (omega arith)) (total-rows f g ts (λ k h. e (suc k) (omega arith)))

-- of one or none
pub total_left : (f g : List ℕ → ℕ) (l : List (List ℕ)) → length l ≤ 1 → ((left : List ℕ) → l ≡ left ∷ [] → f left ≡ g left) → total f l ≡ total g l
unfolding total
total_left f g [] h e = refl
total_left f g (x ∷ []) h e = ap (λ (n : ℕ). n + 0) (e x refl)
total_left f g (x ∷ y ∷ l) h e = absurd (omega arith)

pub total_zero : (f : List ℕ → ℕ) (ts : List (List ℕ)) → ((k : ℕ) → k < length ts → f (get_or ts k []) ≡ 0) → total f ts ≡ 0
unfolding total
total_zero f [] e = refl
total_zero f (t ∷ ts) e = let a = e 0 (omega arith) in let b = total_zero f ts (λ k h. e (suc k) (omega arith)) in omega arith

-- at most m for each that passes a test, none for the others
pub total_passing : (f : List ℕ → ℕ) (test : List ℕ → Bool) (m : ℕ) → ((t : List ℕ) → f t ≤ pick (test t) m 0) → (ts : List (List ℕ))
    → total f ts ≤ m * passing test [] ts
unfolding total
total_passing f test m h [] = omega arith
total_passing f test m h (t ∷ ts) = by (test t) (h t) (total_passing f test m h ts)
  where
    by : (b : Bool) → f t ≤ pick b m 0 → total f ts ≤ m * passing test [] ts → f t + total f ts ≤ m * (pick b 1 0 + passing test [] ts)
    by true k e =
        let d : m * (1 + passing test [] ts) ≡ m * 1 + m * passing test [] ts = mul-add m 1 (passing test [] ts) in
        let o : m * 1 ≡ m = mul-one m in
        omega arith
    by false k e = rw (zero-add (passing test [] ts)) (omega arith)

-- the next of a table's rows
pub total_next : (f : List ℕ → ℕ) (k : ℕ) (ts : List (List ℕ)) → k < length ts → total f (drop k ts) ≡ f (get_or ts k []) + total f (drop (k + 1) ts)
unfolding total
total_next f k [] h = absurd (omega arith)
total_next f zero (t ∷ ts) h = refl
total_next f (suc k) (t ∷ ts) h = rw (add-one (suc k)) (total_next f k ts (omega arith) ∙ ap (λ (n : ℕ). f (get_or ts k []) + total f (drop n ts)) (add-one k))

pub total-end : (f : List ℕ → ℕ) (k : ℕ) (ts : List (List ℕ)) → length ts ≤ k → total f (drop k ts) ≡ 0
unfolding total
total-end f zero [] h = refl
total-end f (suc k) [] h = refl
total-end f zero (t ∷ ts) h = absurd (omega arith)
total-end f (suc k) (t ∷ ts) h = total-end f k ts (omega arith)

-- Rows by their numbers.

pub rows_split : (f : ℕ → ℕ) (row m n : ℕ) → total_rows f row (m + n) ≡ total_rows f row m + total_rows f (row + m) n
unfolding total_rows
rows_split f row zero n = rw (zero-add n, add-zero row) (omega arith)
rows_split f row (suc m) n =
    let e = rows_split f (suc row) m n in
    let a : suc m + n ≡ suc (m + n) = omega arith in
    let b : suc row + m ≡ row + suc m = omega arith in
    rw (a, ← b) (omega arith)

rows_all : (f : ℕ → ℕ) (g : List ℕ → ℕ) (row : ℕ) (ts : List (List ℕ)) → ((k : ℕ) → k < length ts → f (row + k) ≡ g (get_or ts k []))
    → total_rows f row (length ts) ≡ total g ts
unfolding total total_rows
rows_all f g row [] e = refl
rows_all f g row (t ∷ ts) e =
    ap₂ (λ (a b : ℕ). a + b) (ap f (sym (add-zero row)) ∙ e 0 (omega arith))
    (rows_all f g (suc row) ts (λ k h. let q : suc row + k ≡ row + suc k = omega arith in ap f q ∙ e (suc k) (omega arith)))

-- the rows of a table, by their numbers
pub rows_table : (f : ℕ → ℕ) (g : List ℕ → ℕ) (row n : ℕ) (ts : List (List ℕ)) → length ts ≡ n → ((k : ℕ) → k < n → f (row + k) ≡ g (get_or ts k []))
    → total_rows f row n ≡ total g ts
rows_table f g row n ts c e = rw (← c) (rows_all f g row ts (λ k h. e k (omega arith)))

pub rows-each : (f : ℕ → ℕ) (m : ℕ) → ((k : ℕ) → f k ≤ m) → (row n : ℕ) → total_rows f row n ≤ m * n
unfolding total_rows
rows-each f m h row zero = omega arith
rows-each f m h row (suc n) =
    let e = rows-each f m h (suc row) n in
    let k = h row in
    let d : m * (1 + n) ≡ m * 1 + m * n = mul-add m 1 n in
    let o : m * 1 ≡ m = mul-one m in
    let s : suc n ≡ 1 + n = omega arith in
    rw s (omega arith)

-- a turn of a loop over rows by their numbers
pub rows_next : (f : ℕ → ℕ) (k n : ℕ) → k < n → total_rows f k (n - k) ≡ f k + total_rows f (k + 1) (n - (k + 1))
unfolding total_rows
rows_next f k n h =
    let q : n - k ≡ suc (n - (k + 1)) = omega arith in
    rw (q, add-one k) refl

pub rows_end : (f : ℕ → ℕ) (k n : ℕ) → n ≤ k → total_rows f k (n - k) ≡ 0
unfolding total_rows
rows_end f k n h = let q : n - k ≡ 0 = omega arith in rw q
