-- How many lines an accepted sheet has at most, and how their first bytes are stored one by one.
-- The proofs of `check_lines` and `seek` cite it, and every caller that lends a list for the starts. Assumes nothing.
use Rattle.std.specs.Prelude.{Ok}
use mathlib.Core.Path.{◌≡◌, refl, sym, ap, ◌∙◌}
use mathlib.Core.Bool.{Bool, true, false}
use mathlib.Core.List.{List, [], ◌∷◌, ◌++◌, append_assoc}
use Prim.Native.Nat.{ℕ, zero, suc, ◌+◌, ◌-◌, ◌*◌, ◌/◌, ◌<◌, ◌≤◌}
use native.Mathlib.Numerals.{add-one}
use native.Mathlib.Omega.{arith}
use lib.ListN.{length, take, drop, get_or, set, length-append, take-append-drop}
use lib.Seq.{drop-drop, drop_at, take_at, take-suc-set, drop-set-lt, length-take-le, get_or-drop}
use lib.Dec.{eqb, ltb}
use borrow.Author.Tests.{ltb-true, ltb-false}
use Rattle.sheet.specs.Forms.{key}
use Rattle.sheet.specs.Limits.{shortest_line, line_limit, small_limit}
use Rattle.sheet.specs.Lines.{line_at, starts_from, starts_of, sheet_check}
use Rattle.sheet.specs.Steps.{value_end}
use Rattle.sheet.specs.Replies.{Indexed}
use Rattle.sheet.proofs.Forms.{line-fits, line_long}
use Rattle.sheet.proofs.Lines.{no_lines, some-line, next_line}
use Rattle.sheet.proofs.Accepted.{GoesUp, accepted-short, accepted_up}
use Rattle.lookup.specs.Starts.{Room}

-- the lines from byte `at` on take so many bytes; k is at least how many bytes there are
few-from : (k : ℕ) (s : List ℕ) (at : ℕ) (last : List ℕ) → length s ≤ at + k → GoesUp s last (starts_from true at (drop at s)) →
    shortest_line * length (starts_from true at (drop at s)) ≤ length s - at
few-from zero s at last h g = rw (no_lines s at (omega arith)) (omega arith)
few-from (suc k) s at last h g = go (ltb at (length s)) refl (few-from k s)
  where
    go : (b : Bool) → ltb at (length s) ≡ b →
        ((n : ℕ) (l : List ℕ) → length s ≤ n + k → GoesUp s l (starts_from true n (drop n s)) →
        shortest_line * length (starts_from true n (drop n s)) ≤ length s - n) →
        shortest_line * length (starts_from true at (drop at s)) ≤ length s - at
    go false f rest = rw (no_lines s at (ltb-false _ _ f)) (omega arith)
    go true f rest =
        let n = some-line s at (ltb-true _ _ f) in
        let g' : GoesUp s last (at ∷ starts_from (eqb (get_or s at 0) 0x0A) (suc at) (drop (suc at) s)) = rw n at g in
        let e = value_end s at + 3 in
        let m = next_line s at g'.0 in
        let g'' : GoesUp s last (at ∷ starts_from true e (drop e s)) = rw m at g in
        let l = line_long s at g'.0 in
        let r = rest e (key (line_at s at)) (omega arith) g''.2 in
        rw m (omega (arith, r, l, line-fits s at g'.0))

pub few-lines : (s : List ℕ) → sheet_check s ≡ Ok tt → length (starts_of s) ≤ line_limit
few-lines s h =
    let f = few-from (length s) s 0 [] (omega arith) (accepted_up s h) in
    let l = accepted-short s h in
    omega arith

-- a list with room for all lines of an accepted sheet has room for those of every sheet
pub roomy : (s out : List ℕ) → line_limit ≤ length out → Room s out
unfolding Room
roomy s out l = λ h. omega (arith, l, h)

-- the same of a small sheet
pub few-room : (s out : List ℕ) → length s ≤ small_limit → small_limit / shortest_line ≤ length out → Room s out
unfolding Room
few-room s out l n = λ h. omega (arith, l, n)

-- a line begins inside the sheet, so that every start of an accepted one fits 16 bits
starts_from_lem : (c : Bool) (n : ℕ) (t : List ℕ) (i : ℕ) → i < length (starts_from c n t) → get_or (starts_from c n t) i 0 < n + length t
starts_from_lem c n [] i h = absurd (omega arith)
starts_from_lem true n (b ∷ t) zero h = omega arith
starts_from_lem true n (b ∷ t) (suc i) h = let z = starts_from_lem (eqb b 0x0A) (suc n) t i (omega arith) in omega arith
starts_from_lem false n (b ∷ t) i h = let z = starts_from_lem (eqb b 0x0A) (suc n) t i h in omega arith

-- one turn of a filling: `at` stored at place n of `out`, which was `old` before
module _ {A : Type 0} (out old : List A) (n : ℕ) (at : A) (h : n < length out) where
  pub stored-front : (rest : List A) → take (n + 1) (set out n at) ++ rest ≡ take n out ++ at ∷ rest
  stored-front rest = rw (add-one, take-suc-set out n at h) (append_assoc (take n out) (at ∷ []) rest)

  pub stored-behind : drop n out ≡ drop n old → drop (n + 1) (set out n at) ≡ drop (n + 1) old
  stored-behind e =
      drop-set-lt (n + 1) out n at (omega arith) ∙ sym (drop-drop 1 n out) ∙ ap (λ (l : List A). drop 1 l) e ∙ drop-drop 1 n old

-- so far n starts are stored in `out`, which was `old` before; `rest` are those to come
module _ (starts out old : List ℕ) (n : ℕ) (h : n ≤ length out) where
  pub stored_far : (rest : List ℕ) → starts ≡ take n out ++ rest → drop n out ≡ drop n old → out ≡ take n starts ++ drop n old
  stored_far rest e f =
      let t : take n starts ≡ take n out = ap (λ (l : List ℕ). take n l) e ∙ take_at (take n out) rest n (length-take-le n out h) in
      sym (take-append-drop n out) ∙ ap (λ (l : List ℕ). l ++ drop n out) (sym t) ∙ ap (λ (l : List ℕ). take n starts ++ l) f

  -- the line to come is number n
  pub line_next : (at : ℕ) (rest : List ℕ) → starts ≡ take n out ++ at ∷ rest → (n < length starts) × (get_or starts n 0 ≡ at)
  line_next at rest e =
      let l : length starts ≡ length (take n out) + suc (length rest) = ap length e ∙ length-append (take n out) (at ∷ rest) in
      let m : length (take n out) ≡ n = length-take-le n out h in
      let d : drop n starts ≡ at ∷ rest = ap (λ (x : List ℕ). drop n x) e ∙ drop_at (take n out) (at ∷ rest) n m in
      let z : n + 0 ≡ n = omega arith in
      (omega arith, ap (λ (k : ℕ). get_or starts k 0) (sym z) ∙ sym (get_or-drop n starts 0 0) ∙ ap (λ (x : List ℕ). get_or x 0 0) d)

-- what the caller has: the stored starts stand for the accepted sheet in a search
pub filled : (s out old : List ℕ) (r : ℕ) → sheet_check s ≡ Ok tt → r ≡ length (starts_of s) → out ≡ starts_of s ++ drop r old →
    Indexed s (take r out)
filled s out old r h n e =
    record { accepted = h; listed = ap (λ (l : List ℕ). take r l) e ∙ take_at (starts_of s) (drop r old) r (sym n) }
