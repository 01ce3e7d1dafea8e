-- A UTF-8 text is its characters, in one way only, and the pass reads these. Assumes nothing.
use Prim.Native.Nat.{ℕ, suc, ◌+◌, ◌-◌, ◌*◌, ◌≤◌}
use native.Mathlib.Omega.{arith}
use mathlib.Core.Path.{◌≡◌, refl, sym, ap, subst, ◌∙◌}
use mathlib.Core.Logic.{⊎_elim}
use mathlib.Core.Bool.{Bool, true, ◌&&◌}
use mathlib.Core.List.Memᴰ
use mathlib.Core.List.{List, [], ◌∷◌, ◌++◌, Memᴰ}
use lib.ListN.{length, take, drop, length-append}
use lib.Seq.{take-append_seam, drop-append_seam}
use lib.Dec.{leb}
use borrow.Author.Tests.{leb-true}
use Rattle.runs.proofs.Begins.{and_left, and_right}
use Rattle.text.specs.Utf8.{Range, from_to, within, utf8_char, FitsRow, Octets, none, more, is_utf8}
use Rattle.text.proofs.Grammar.{no, chooses, no_empty_row, sound}
use Rattle.text.proofs.Ranges.{below}
use Rattle.tokenizer.specs.Scalars.{Character, bytes, scalar}
use Rattle.tokenizer.specs.Parting.{parts, devanagari}
use Rattle.tokenizer.specs.Tokens.{Each}
use Rattle.tokenizer.specs.Scanned.{fits, width, Chars, finished, char, chars_from}
use Rattle.tokenizer.proofs.Turns.{chars-one}

-- the bytes of a character fit its row, whatever follows
row_fits : (rs : List Range) (c x : List ℕ) → FitsRow rs c → (fits rs (c ++ x) ≡ true) × (length rs ≡ length c)
unfolding fits
row_fits [] [] x f = (refl, refl)
row_fits [] (b ∷ c) x f = absurd f
row_fits (r ∷ rs) [] x f = absurd f
row_fits (r ∷ rs) (b ∷ c) x f = let k = row_fits rs c x f.1 in (rw f.0 k.0, ap suc k.1)

width-row : (row : List Range) (c x : List ℕ) → Memᴰ row utf8_char → FitsRow row c → (width (c ++ x) ≡ length c) × (1 ≤ length c)
unfolding width
width-row [] c x m f = absurd (no_empty_row m)
width-row (r ∷ rs) [] x m f = absurd f
width-row (r ∷ rs) (b ∷ c) x m f =
    let k = row_fits rs c x f.1 in
    (rw (chooses r rs b m f.0, k.0) (ap suc k.1), omega arith)

pub width_of : (c x : List ℕ) → Character c → width (c ++ x) ≡ length c
width_of c x k = (width-row k.0 c x k.1 k.2).0

pub has-bytes : (c : List ℕ) → Character c → 1 ≤ length c
has-bytes c k = (width-row k.0 c [] k.1 k.2).1

-- two texts that begin with a character each and are equal
same_first : (c d x y : List ℕ) → Character c → Character d → c ++ x ≡ d ++ y → (c ≡ d) × (x ≡ y)
same_first c d x y k l e =
    let n : length c ≡ length d = sym (width_of c x k) ∙ ap width e ∙ width_of d y l in (
      sym (take-append_seam c x) ∙ ap (λ (z : List ℕ). take (length c) z) e ∙ ap (λ (m : ℕ). take m (d ++ y)) n ∙ take-append_seam d y,
      sym (drop-append_seam c x) ∙ ap (λ (z : List ℕ). drop (length c) z) e ∙ ap (λ (m : ℕ). drop m (d ++ y)) n ∙ drop-append_seam d y,
    )

never_empty : (c x : List ℕ) → Character c → ◌≡◌ {A = List ℕ} [] (c ++ x) → ⊥
never_empty c x k e =
    let n = has-bytes c k in
    let l : 0 ≡ length c + length x = ap length e ∙ length-append c x in
    omega arith

-- a text is read into characters in one way
pub one_way : (cs ds : List (List ℕ)) → Each Character cs → Each Character ds → bytes cs ≡ bytes ds → cs ≡ ds
unfolding bytes
one_way [] [] k l e = refl
one_way [] (d ∷ ds) k l e = absurd (never_empty d (bytes ds) l.0 e)
one_way (c ∷ cs) [] k l e = absurd (never_empty c (bytes cs) k.0 (sym e))
one_way (c ∷ cs) (d ∷ ds) k l e =
    let p = same_first c d (bytes cs) (bytes ds) k.0 l.0 e in
    let q = one_way cs ds k.1 l.1 p.1 in
    joined p.0 q
  where
    joined : {c d : List ℕ} {cs ds : List (List ℕ)} → c ≡ d → cs ≡ ds → ◌≡◌ {A = List (List ℕ)} (c ∷ cs) (d ∷ ds)
    joined p q = cc

-- UTF-8 is characters
read : {s : List ℕ} {n : ℕ} → Octets s n → (cs : List (List ℕ)) × Each Character cs × (s ≡ bytes cs)
unfolding bytes
read none = ([], tt, refl)
read (more row c rest s n e m f o) =
    let k = read o in
    (c ∷ k.0, ((row, m, f), k.1), e ∙ ap (λ (x : List ℕ). c ++ x) k.2)

pub read_all : (s : List ℕ) → is_utf8 s ≡ true → (cs : List (List ℕ)) × Each Character cs × (s ≡ bytes cs)
read_all s e = let o = sound s e in read o.1

-- what the pass is told of characters
unfoldable pub told : List (List ℕ) → Chars
told [] = finished
told (c ∷ cs) = char (length c) (parts (scalar c)) (devanagari (scalar c)) (told cs)

told-one : (c x : List ℕ) → Character c → chars_from 0 (c ++ x) ≡ char (length c) (parts (scalar c)) (devanagari (scalar c)) (chars_from 0 x)
told-one [] x k = absurd (not_empty (has-bytes [] k))
  where
    not_empty : 1 ≤ 0 → ⊥
    not_empty h = omega arith
told-one (b ∷ c) x k =
    let w : width (b ∷ (c ++ x)) ≡ suc (length c) = width_of (b ∷ c) x k in
    let p : suc (length c) - 1 ≡ length c = omega arith in
    chars-one b (c ++ x) (λ z. let q : suc (length c) ≡ 0 = sym w ∙ z in omega arith)
    ∙ rw (w, p, take-append_seam (b ∷ c) x, drop-append_seam c x)

pub told_all : (cs : List (List ℕ)) → Each Character cs → chars_from 0 (bytes cs) ≡ told cs
unfolding bytes told chars_from
told_all [] k = refl
told_all (c ∷ cs) k = told-one c (bytes cs) k.0 ∙ ap (char (length c) (parts (scalar c)) (devanagari (scalar c))) (told_all cs k.1)

-- a character in U+0900 to U+097F has three bytes or more: no shorter row reaches so far
small : List Range → Bool
small [] = true
small (r ∷ []) = leb r.high 0x7F
small (r ∷ q ∷ []) = leb r.high 0xDF && leb q.high 0xBF
small (r ∷ q ∷ o ∷ rs) = true

all_small : List (List Range) → Bool
all_small [] = true
all_small (row ∷ rows) = small row && all_small rows

all_small_lem : all_small utf8_char ≡ true
unfolding all_small small utf8_char
all_small_lem = refl

small_of : (row : List Range) (rows : List (List Range)) → all_small rows ≡ true → Memᴰ row rows → small row ≡ true
unfolding all_small
small_of row [] e m = absurd (Memᴰ.not-nil m)
small_of row (q ∷ rows) e m =
    ⊎_elim (λ h. subst (λ (x : List Range). small x ≡ true) (sym h) (and_left _ _ e)) (λ k. small_of row rows (and_right (small q) _ e) k) (Memᴰ.cases_cons m)

at_most : (r : Range) (b h : ℕ) → within r b ≡ true → leb r.high h ≡ true → b ≤ h
unfolding within
at_most r b h w e = let p : b ≤ r.high = leb-true _ _ (and_right (leb r.low b) _ w) in let q = leb-true r.high h e in omega arith

three_bytes : (row : List Range) (c : List ℕ) → small row ≡ true → FitsRow row c → devanagari (scalar c) ≡ true → 3 ≤ length c
unfolding small scalar devanagari
three_bytes [] [] t f d = no (below (from_to 0x0900 0x097F) 0 (omega arith)) d
three_bytes [] (b ∷ c) t f d = absurd f
three_bytes (r ∷ []) [] t f d = absurd f
three_bytes (r ∷ []) (a ∷ []) t f d = let p = at_most r a 0x7F f.0 t in no (below (from_to 0x0900 0x097F) a (omega arith)) d
three_bytes (r ∷ []) (a ∷ b ∷ c) t f d = absurd f.1
three_bytes (r ∷ q ∷ []) [] t f d = absurd f
three_bytes (r ∷ q ∷ []) (a ∷ []) t f d = absurd f.1
three_bytes (r ∷ q ∷ []) (a ∷ b ∷ []) t f d =
    let p = at_most r a 0xDF f.0 (and_left _ _ t) in
    let o = at_most q b 0xBF f.1.0 (and_right (leb r.high 0xDF) _ t) in
    no (below (from_to 0x0900 0x097F) ((a - 0xC0) * 64 + (b - 0x80)) (omega arith)) d
three_bytes (r ∷ q ∷ []) (a ∷ b ∷ c ∷ s) t f d = absurd f.1.1
three_bytes (r ∷ q ∷ o ∷ rs) [] t f d = absurd f
three_bytes (r ∷ q ∷ o ∷ rs) (a ∷ []) t f d = absurd f.1
three_bytes (r ∷ q ∷ o ∷ rs) (a ∷ b ∷ []) t f d = absurd f.1.1
three_bytes (r ∷ q ∷ o ∷ rs) (a ∷ b ∷ c ∷ s) t f d = omega arith

pub three : (c : List ℕ) → Character c → devanagari (scalar c) ≡ true → 3 ≤ length c
three c k d = three_bytes k.0 c (small_of k.0 utf8_char all_small_lem k.1) k.2 d
