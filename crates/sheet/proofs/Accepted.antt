-- What acceptance gives of a sheet: its length, a form at every line start, and keys that go up from line to line.
-- The search and the count of the lines cite it. Assumes nothing.
use Rattle.std.specs.Prelude.{Err, Ok}
use mathlib.Core.Path.{◌≡◌, refl, ap, ◌∙◌}
use mathlib.Core.Bool.{Bool, true, false}
use mathlib.Core.List.Memᴰ
use mathlib.Core.List.{List, [], ◌∷◌, Memᴰ}
use mathlib.Core.Logic.{⊎_elim}
use Prim.Native.Nat.{ℕ, zero, suc, ◌<◌, ◌≤◌}
use native.Mathlib.Omega.{arith}
use lib.ListN.{length, take, drop, get_or}
use lib.Dec.{ltb}
use borrow.Author.Tests.{ltb-false}
use Rattle.runs.specs.Runs.{pick, cmp, is_less}
use Rattle.std.specs.declared.cmp.Ordering.{Ordering}
use Rattle.std.specs.declared.cmp.Ordering.TheVariants.{Less, Equal, Greater}
use Rattle.runs.proofs.Ordered.{cmp_trans}
use Rattle.sheet.specs.Forms.{is_form, key}
use Rattle.sheet.specs.Limits.{sheet_limit}
use Rattle.sheet.specs.Lines.{starts_of, line_at, judged, sheet_check}
use Rattle.sheet.specs.declared.check.SheetFault.TheVariants.{TooLong, NoForm, NotAbove}

pub accepted-short : (s : List ℕ) → sheet_check s ≡ Ok tt → length s ≤ sheet_limit
unfolding sheet_check
accepted-short s h = go (ltb sheet_limit (length s)) refl h
  where
    go : (b : Bool) → ltb sheet_limit (length s) ≡ b → pick b (Err TooLong) (judged s [] (starts_of s)) ≡ Ok tt → length s ≤ sheet_limit
    go true e f = let z : ◌≡◌ {A = ℕ} 0 1 = cc in omega arith
    go false e f = ltb-false _ _ e

accepted-judged : (s : List ℕ) → sheet_check s ≡ Ok tt → judged s [] (starts_of s) ≡ Ok tt
unfolding sheet_check
accepted-judged s h = go (ltb sheet_limit (length s)) h
  where
    go : (b : Bool) → pick b (Err TooLong) (judged s [] (starts_of s)) ≡ Ok tt → judged s [] (starts_of s) ≡ Ok tt
    go true f = cc
    go false f = f

-- the lines that begin at the places given are forms, each above the one before, and the first above the key `last`
abbrev pub GoesUp : List ℕ → List ℕ → List ℕ → Type 0
GoesUp s last [] = Unit {0}
GoesUp s last (at ∷ places) =
    (is_form (drop at s) ≡ true) × (cmp last (key (line_at s at)) ≡ Less) × GoesUp s (key (line_at s at)) places

less_true : (o : Ordering) → is_less o ≡ true → o ≡ Less
less_true Less e = refl
less_true Equal e = cc
less_true Greater e = cc

judged_up : (s last places : List ℕ) → judged s last places ≡ Ok tt → GoesUp s last places
unfolding judged
judged_up s last [] h = tt
judged_up s last (at ∷ places) h =
    go (is_form (drop at s)) (is_less (cmp last (key (line_at s at)))) refl refl (judged_up s (key (line_at s at)) places) h
  where
    go : (f l : Bool) → is_form (drop at s) ≡ f → is_less (cmp last (key (line_at s at))) ≡ l →
        (judged s (key (line_at s at)) places ≡ Ok tt → GoesUp s (key (line_at s at)) places) →
        pick f (pick l (judged s (key (line_at s at)) places) (Err (NotAbove at))) (Err (NoForm at)) ≡ Ok tt →
        (is_form (drop at s) ≡ true) × (cmp last (key (line_at s at)) ≡ Less) × GoesUp s (key (line_at s at)) places
    go true true p q rest e = (p, less_true _ q, rest e)
    go true false p q rest e = let z : ◌≡◌ {A = ℕ} 0 1 = cc in absurd (omega arith)
    go false l p q rest e = let z : ◌≡◌ {A = ℕ} 0 1 = cc in absurd (omega arith)

pub accepted_up : (s : List ℕ) → sheet_check s ≡ Ok tt → GoesUp s [] (starts_of s)
accepted_up s h = judged_up s [] (starts_of s) (accepted-judged s h)

module _ (s : List ℕ) where
  up_lower : (q last places : List ℕ) → cmp q last ≡ Less → GoesUp s last places → GoesUp s q places
  up_lower q last [] h g = tt
  up_lower q last (at ∷ places) h g = (g.0, cmp_trans q last _ h g.1, g.2)

  pub up_drop : (last : List ℕ) (n : ℕ) (places : List ℕ) → GoesUp s last places → GoesUp s last (drop n places)
  up_drop last zero places g = g
  up_drop last (suc n) [] g = tt
  up_drop last (suc n) (at ∷ places) g = up_drop last n places (up_lower last _ places g.1 g.2)

  pub up_take : (last : List ℕ) (n : ℕ) (places : List ℕ) → GoesUp s last places → GoesUp s last (take n places)
  up_take last zero places g = tt
  up_take last (suc n) [] g = tt
  up_take last (suc n) (at ∷ places) g = (g.0, g.1, up_take (key (line_at s at)) n places g.2)

  pub up_form : (last places : List ℕ) (i : ℕ) → GoesUp s last places → i < length places → is_form (drop (get_or places i 0) s) ≡ true
  up_form last [] i g h = absurd (omega arith)
  up_form last (at ∷ places) zero g h = g.0
  up_form last (at ∷ places) (suc i) g h = up_form (key (line_at s at)) places i g.2 (omega arith)

  pub up_above : (last places : List ℕ) (i : ℕ) → GoesUp s last places → i < length places →
      cmp last (key (line_at s (get_or places i 0))) ≡ Less
  up_above last [] i g h = absurd (omega arith)
  up_above last (at ∷ places) zero g h = g.1
  up_above last (at ∷ places) (suc i) g h = cmp_trans last _ _ g.1 (up_above (key (line_at s at)) places i g.2 (omega arith))

  pub up_pair : (last places : List ℕ) (i j : ℕ) → GoesUp s last places → i < j → j < length places →
      cmp (key (line_at s (get_or places i 0))) (key (line_at s (get_or places j 0))) ≡ Less
  up_pair last [] i j g h l = absurd (omega arith)
  up_pair last (at ∷ places) i zero g h l = absurd (omega arith)
  up_pair last (at ∷ places) zero (suc j) g h l = up_above (key (line_at s at)) places j g.2 (omega arith)
  up_pair last (at ∷ places) (suc i) (suc j) g h l = up_pair (key (line_at s at)) places i j g.2 (omega arith) (omega arith)

  pub up_member : (last places : List ℕ) (at : ℕ) → GoesUp s last places → Memᴰ at places → is_form (drop at s) ≡ true
  up_member last [] at g m = absurd (Memᴰ.not-nil m)
  up_member last (a ∷ places) at g m =
      ⊎_elim (λ e. ap (λ (x : ℕ). is_form (drop x s)) e ∙ g.0) (λ k. up_member (key (line_at s a)) places at g.2 k) (Memᴰ.cases_cons m)
