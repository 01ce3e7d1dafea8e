-- The test `is_utf8` passes exactly for the sequences of RFC 3629's grammar, and `chars` counts their characters. The rows of the
-- grammar begin in ranges that lie apart, so a first byte chooses one row; this is one computed test over all rows. Assumes nothing.
use Prim.Native.Nat.{ℕ, zero, suc, ◌+◌, ◌≤◌}
use native.Mathlib.Omega.{arith}
use native.Mathlib.Nat.{zero-add}
use mathlib.Core.Path.{◌≡◌, refl, sym, ap, subst, ◌∙◌}
use mathlib.Core.Logic.{⊎_elim}
use mathlib.Core.Bool.{Bool, true, false, ◌&&◌, ◌||◌}
use mathlib.Core.List.Memᴰ
use mathlib.Core.List.{List, [], ◌∷◌, ◌++◌, Memᴰ}
use lib.ListN.{length, length-append}
use lib.Dec.{leb, ltb}
use borrow.Author.Tests.{leb-true, ltb-true}
use Rattle.std.proofs.lemmas.Bool.{or_cases, both_ways}
use Rattle.runs.specs.Runs.{pick}
use Rattle.runs.proofs.Begins.{and_left, and_right}
use Rattle.text.specs.Utf8.{Range, within, tail, utf8_char, FitsRow, Octets, none, more, Owed, owes, misfit, opened, after, run, whole, is_utf8}
use Rattle.text.specs.Characters.{opens, chars}
use Rattle.text.proofs.Ranges.{inside, below, above}

-- a contradiction of two truths
pub no : {P : Type 0} {b : Bool} → b ≡ false → b ≡ true → P
no e f = absurd (both_ways _ e f)

in_range : (r : Range) (b : ℕ) → within r b ≡ true → (r.low ≤ b) × (b ≤ r.high)
unfolding within
in_range r b e = (leb-true _ _ (and_left _ _ e), leb-true _ _ (and_right (leb r.low b) _ e))

-- two ranges lie apart
apart : Range → Range → Bool
apart r q = ltb r.high q.low || ltb q.high r.low

apart_out : (r q : Range) (b : ℕ) → apart r q ≡ true → within q b ≡ true → within r b ≡ false
unfolding apart
apart_out r q b e w =
    let i = in_range q b w in
    ⊎_elim (λ h. let k = ltb-true r.high q.low h in above r b (omega arith)) (λ h. let k = ltb-true q.high r.low h in below r b (omega arith))
    (or_cases (ltb r.high q.low) (ltb q.high r.low) e)

-- the row begins in a range apart from r; the later bytes of a row are tails, and its first is none
starts_apart : Range → List Range → Bool
starts_apart r [] = false
starts_apart r (q ∷ qs) = apart r q

all_apart : Range → List (List Range) → Bool
all_apart r [] = true
all_apart r (row ∷ rows) = starts_apart r row && all_apart r rows

tails : List Range → Bool
tails [] = true
tails (r ∷ rs) = leb 0x80 r.low && leb r.high 0xBF && tails rs

good : List (List Range) → Bool
good [] = true
good ([] ∷ rows) = false
good ((r ∷ rs) ∷ rows) = all_apart r rows && (apart tail r && tails rs) && good rows

all_good : good utf8_char ≡ true
unfolding good utf8_char all_apart starts_apart apart tails
all_good = refl

-- what a good list of rows says of one of them
apart_of : (q r : Range) (rs : List Range) (rows : List (List Range)) → all_apart q rows ≡ true → Memᴰ (r ∷ rs) rows → apart q r ≡ true
unfolding all_apart starts_apart
apart_of q r rs [] e m = absurd (Memᴰ.not-nil m)
apart_of q r rs (row ∷ rows) e m =
    ⊎_elim (λ h. subst (λ (x : List Range). starts_apart q x ≡ true) (sym h) (and_left _ _ e)) (λ k. apart_of q r rs rows (and_right (starts_apart q row) _ e) k)
    (Memᴰ.cases_cons m)

heads : {r q : Range} {rs qs : List Range} → ◌≡◌ {A = List Range} (r ∷ rs) (q ∷ qs) → (r ≡ q) × (rs ≡ qs)
heads e = (cc, cc)

module _ (r : Range) (rs : List Range) where
  -- a first byte in the row's first range chooses the row
  finds : (rows : List (List Range)) (b : ℕ) → good rows ≡ true → Memᴰ (r ∷ rs) rows → within r b ≡ true → opened rows b ≡ owes rs
  unfolding good opened
  finds [] b g m w = absurd (Memᴰ.not-nil m)
  finds ([] ∷ rows) b g m w = no refl g
  finds ((q ∷ qs) ∷ rows) b g m w =
      ⊎_elim
      (λ h. let p = heads h in let v : within q b ≡ true = subst (λ (x : Range). within x b ≡ true) p.0 w in rw v (ap owes (sym p.1)))
      (λ k. rw (apart_out q r b (apart_of q r rs rows (and_left _ _ (and_left _ _ g)) k) w) (finds rows b (and_right (all_apart q rows && (apart tail q && tails qs)) _ g) k w))
      (Memᴰ.cases_cons m)

  -- its first byte is no tail, and its later bytes are
  shaped : (rows : List (List Range)) → good rows ≡ true → Memᴰ (r ∷ rs) rows → (apart tail r ≡ true) × (tails rs ≡ true)
  unfolding good
  shaped [] g m = absurd (Memᴰ.not-nil m)
  shaped ([] ∷ rows) g m = no refl g
  shaped ((q ∷ qs) ∷ rows) g m =
      ⊎_elim
      (λ h. let p = heads h in let t = and_right (all_apart q rows) _ (and_left _ _ g) in
      (subst (λ (x : Range). apart tail x ≡ true) (sym p.0) (and_left _ _ t), subst (λ (x : List Range). tails x ≡ true) (sym p.1) (and_right (apart tail q) _ t)))
      (λ k. shaped rows (and_right (all_apart q rows && (apart tail q && tails qs)) _ g) k)
      (Memᴰ.cases_cons m)

-- no row is empty
never : (rows : List (List Range)) → good rows ≡ true → Memᴰ [] rows → ⊥
unfolding good
never [] g m = Memᴰ.not-nil m
never ([] ∷ rows) g m = no refl g
never ((q ∷ qs) ∷ rows) g m =
    ⊎_elim (λ h. let z : ◌≡◌ {A = ℕ} 0 1 = cc in omega arith) (λ k. never rows (and_right (all_apart q rows && (apart tail q && tails qs)) _ g) k) (Memᴰ.cases_cons m)

-- a first byte chooses its row of the grammar, and each row has one
pub chooses : (r : Range) (rs : List Range) (b : ℕ) → Memᴰ (r ∷ rs) utf8_char → within r b ≡ true → opened utf8_char b ≡ owes rs
chooses r rs b m w = finds r rs utf8_char b all_good m w

pub no_empty_row : Memᴰ [] utf8_char → ⊥
no_empty_row m = never utf8_char all_good m

-- the bytes that a begun character owes leave nothing owed, and begin no character
passes : (rs : List Range) (c t : List ℕ) → FitsRow rs c → run (owes rs) (c ++ t) ≡ run (owes []) t
unfolding run after
passes [] [] t f = refl
passes [] (b ∷ c) t f = absurd f
passes (r ∷ rs) [] t f = absurd f
passes (r ∷ rs) (b ∷ c) t f = ap (λ (x : Bool). run (pick x (owes rs) misfit) (c ++ t)) f.0 ∙ passes rs c t f.1

uncounted : (rs : List Range) (c t : List ℕ) → tails rs ≡ true → FitsRow rs c → chars (c ++ t) ≡ chars t
unfolding chars opens tails
uncounted [] [] t g f = refl
uncounted [] (b ∷ c) t g f = absurd f
uncounted (r ∷ rs) [] t g f = absurd f
uncounted (r ∷ rs) (b ∷ c) t g f =
    let i = in_range r b f.0 in
    let lo = leb-true 0x80 r.low (and_left _ _ (and_left _ _ g)) in
    let hi = leb-true r.high 0xBF (and_right (leb 0x80 r.low) _ (and_left _ _ g)) in
    rw (inside tail b (omega arith) (omega arith), zero-add) (uncounted rs c t (and_right (leb 0x80 r.low && leb r.high 0xBF) _ g) f.1)

-- a character before a text leaves nothing owed, and counts one
one-passed : (row : List Range) (c rest : List ℕ) → Memᴰ row utf8_char → FitsRow row c → run (owes []) (c ++ rest) ≡ run (owes []) rest
unfolding run after
one-passed [] c rest m f = absurd (never utf8_char all_good m)
one-passed (r ∷ rs) [] rest m f = absurd f
one-passed (r ∷ rs) (b ∷ c) rest m f = ap (λ (o : Owed). run o (c ++ rest)) (finds r rs utf8_char b all_good m f.0) ∙ passes rs c rest f.1

one-counted : (row : List Range) (c rest : List ℕ) → Memᴰ row utf8_char → FitsRow row c → chars (c ++ rest) ≡ suc (chars rest)
unfolding chars opens
one-counted [] c rest m f = absurd (never utf8_char all_good m)
one-counted (r ∷ rs) [] rest m f = absurd f
one-counted (r ∷ rs) (b ∷ c) rest m f =
    let g = shaped r rs utf8_char all_good m in
    let out : within tail b ≡ false = apart_out tail r b g.0 f.0 in
    rw (out, uncounted rs c rest g.1 f.1) (omega arith)

-- the grammar's sequences are UTF-8, and `chars` counts their characters
pub complete : {s : List ℕ} {n : ℕ} → Octets s n → (is_utf8 s ≡ true) × (chars s ≡ n)
unfolding is_utf8 run chars
complete none = (refl, refl)
complete (more row c rest s n e m f o) =
    let h = complete o in
    (ap (λ (x : List ℕ). whole (run (owes []) x)) e ∙ ap whole (one-passed row c rest m f) ∙ h.0, ap chars e ∙ one-counted row c rest m f ∙ ap suc h.1)

-- what is owed once nothing fits stays so
pub lost : (s : List ℕ) → run misfit s ≡ misfit
unfolding run after
lost [] = refl
lost (b ∷ s) = lost s

-- a text that pays what is owed begins with bytes that do
paid : (rs : List Range) (s : List ℕ) → whole (run (owes rs) s) ≡ true → (c : List ℕ) × (t : List ℕ) × (s ≡ c ++ t) × FitsRow rs c × (whole (run (owes []) t) ≡ true)
unfolding run after
paid [] s e = ([], s, refl, tt, e)
paid (r ∷ rs) [] e = no refl e
paid (r ∷ rs) (b ∷ s) e = by (within r b) refl e (paid rs s)
  where
    by : (x : Bool) → within r b ≡ x → whole (run (pick x (owes rs) misfit) s) ≡ true
        → (whole (run (owes rs) s) ≡ true → (c : List ℕ) × (t : List ℕ) × (s ≡ c ++ t) × FitsRow rs c × (whole (run (owes []) t) ≡ true))
        → (c : List ℕ) × (t : List ℕ) × (b ∷ s ≡ c ++ t) × FitsRow (r ∷ rs) c × (whole (run (owes []) t) ≡ true)
    by true w e k = let p = k e in (b ∷ p.0, p.1, ap (λ (l : List ℕ). b ∷ l) p.2, (w, p.3), p.4)
    by false w e k = no refl (sym (ap whole (lost s)) ∙ e)

-- the row that a first byte chose
chosen : (rows : List (List Range)) (b : ℕ) (rs : List Range) → opened rows b ≡ owes rs → (r : Range) × Memᴰ (r ∷ rs) rows × (within r b ≡ true)
unfolding opened
chosen [] b rs e = let z : ◌≡◌ {A = ℕ} 0 1 = cc in absurd (omega arith)
chosen ([] ∷ rows) b rs e = let k = chosen rows b rs e in (k.0, Memᴰ.tail k.1, k.2)
chosen ((q ∷ qs) ∷ rows) b rs e = by (within q b) refl e (chosen rows b rs)
  where
    by : (x : Bool) → within q b ≡ x → pick x (owes qs) (opened rows b) ≡ owes rs → (opened rows b ≡ owes rs → (r : Range) × Memᴰ (r ∷ rs) rows × (within r b ≡ true))
        → (r : Range) × Memᴰ (r ∷ rs) ((q ∷ qs) ∷ rows) × (within r b ≡ true)
    by true w e k = let p : rs ≡ qs = cc in (q, Memᴰ.head (ap (λ (l : List Range). q ∷ l) p), w)
    by false w e k = let p = k e in (p.0, Memᴰ.tail p.1, p.2)

-- UTF-8 is a sequence of the grammar: its first character is one of a row, and so are those of the rest, which is shorter
module _ (k : ℕ) (rest : (t : List ℕ) → length t ≤ k → whole (run (owes []) t) ≡ true → (n : ℕ) × Octets t n) where
  first_of : (b : ℕ) (s : List ℕ) → length s ≤ k → (o : Owed) → opened utf8_char b ≡ o → whole (run o s) ≡ true → (n : ℕ) × Octets (b ∷ s) n
  first_of b s h misfit q e = no refl (sym (ap whole (lost s)) ∙ e)
  first_of b s h (owes rs) q e =
      let r = chosen utf8_char b rs q in
      let p = paid rs s e in
      let l : length s ≡ length p.0 + length p.1 = ap length p.2 ∙ length-append p.0 p.1 in
      let o = rest p.1 (omega arith) p.4 in
      (suc o.0, more (r.0 ∷ rs) (b ∷ p.0) p.1 (b ∷ s) o.0 (ap (λ (x : List ℕ). b ∷ x) p.2) r.1 (r.2, p.3) o.1)

  one_more : (s : List ℕ) → length s ≤ suc k → whole (run (owes []) s) ≡ true → (n : ℕ) × Octets s n
  unfolding run after
  one_more [] h e = (0, none)
  one_more (b ∷ s) h e = first_of b s (omega arith) (opened utf8_char b) refl e

empty_only : (s : List ℕ) → length s ≤ 0 → (n : ℕ) × Octets s n
empty_only [] h = (0, none)
empty_only (b ∷ s) h = absurd (omega arith)

within-bytes : (k : ℕ) (s : List ℕ) → length s ≤ k → whole (run (owes []) s) ≡ true → (n : ℕ) × Octets s n
within-bytes zero s h e = empty_only s h
within-bytes (suc k) s h e = one_more k (within-bytes k) s h e

pub sound : (s : List ℕ) → is_utf8 s ≡ true → (n : ℕ) × Octets s n
unfolding is_utf8
sound s e = within-bytes (length s) s (omega arith) e
