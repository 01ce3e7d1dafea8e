-- What is given where the buffer has room for the whole text. Every function with a buffer that is always long enough cites these.
-- Assumes nothing.
use Rattle.std.specs.Prelude.{Err, Ok, Result}
use Rattle.std.specs.Result.{result_unwrap_or}
use Prim.Native.Nat.{ℕ, ◌+◌, ◌≤◌, ◌<◌}
use native.Mathlib.Omega.{arith}
use mathlib.Core.Path.{◌≡◌, refl, sym, ap, subst, ◌∙◌}
use mathlib.Core.Bool.{true}
use mathlib.Core.List.{List, ◌++◌}
use lib.Dec.{leb}
use borrow.Author.Tests.{le-leb}
use lib.ListN.{length, take, drop, length-append}
use lib.Seq.{take_at}
use Rattle.refusals.specs.declared.Refusal.{Refusal}
use Rattle.writing.specs.Placed.{largest, placed, Wrote, Answer, Whole}

-- a text that was put at the front of a buffer with room for it
pub front : {old new text : List ℕ} {n : ℕ} → Wrote old new 0 n text → length text ≤ length old → length old ≤ largest → Whole text old new n
unfolding placed
front {old} {new} {text} {n} w h k =
    let q = w.end in
    let e : n ≡ length text = omega arith in
    let z : 0 + length text ≡ n = omega arith in
    let all : new ≡ text ++ drop n old = w.there (omega arith) (omega arith) ∙ ap (λ (i : ℕ). text ++ drop i old) z in
    let l = ap length all ∙ length-append text (drop n old) in
    record {
      size = e;
      contents = all;
      inside = omega arith;
      counted = e ∙ ap length (sym (ap (take n) all ∙ take_at text (drop n old) n (sym e)));
    }

pub front_as : {old new text whole : List ℕ} {n : ℕ} → text ≡ whole → Wrote old new 0 n text → length whole ≤ length old → length old ≤ largest → Whole whole old new n
front_as {old} {new} {n = n} e w h k = front (subst (λ (t : List ℕ). Wrote old new 0 n t) e w) h k

-- a text that fits in, of which another buffer told the length, and which was put at the front
pub written_whole : {none spent out new text : List ℕ} {n next : ℕ} → Wrote none spent 0 n text → n ≤ length out → length out < largest
    → Wrote out new 0 next text → Answer text out new (Ok n)
written_whole {out = out} {text = text} {n = n} m f s w =
    let q = m.end in
    let a = front w (omega arith) (omega arith) in
    let e : n ≡ length text = omega arith in
    let t = le-leb (length text) (length out) (omega arith) in
    record { given = rw (t, e); left = rw t (a.contents ∙ ap (λ (i : ℕ). text ++ drop i out) a.size) }

-- a buffer with room for a text is never too short for it
module _ (text out new : List ℕ) (r : Result ℕ Refusal) (room : length text ≤ length out) (a : Answer text out new r) where
  fits : leb (length text) (length out) ≡ true
  fits = le-leb (length text) (length out) room

  pub whole : (n : ℕ) → r ≡ Ok n → Whole text out new n
  whole n g =
      let b : r ≡ Ok (length text) = rw fits at a.given in
      let f : new ≡ text ++ drop (length text) out = rw fits at a.left in
      let e : n ≡ length text = cc in
      let all = f ∙ ap (λ (k : ℕ). text ++ drop k out) (sym e) in
      let l = ap length all ∙ length-append text (drop n out) in
      record {
        size = e;
        contents = all;
        inside = omega arith;
        counted = e ∙ ap length (sym (ap (take n) all ∙ take_at text (drop n out) n (sym e)));
      }

  pub never_short : (q : Refusal) → r ≡ Err q → ⊥
  never_short q g = let b : r ≡ Ok (length text) = rw fits at a.given in let z : ◌≡◌ {A = ℕ} 0 1 = cc in omega arith

  -- and what is given of it is all of the text
  pub written : Whole text out new (result_unwrap_or r 0)
  written = by r refl
    where
      by : (x : Result ℕ Refusal) → r ≡ x → Whole text out new (result_unwrap_or x 0)
      by (Ok n) e = whole n e
      by (Err q) e = absurd (never_short q e)

pub answer_as : {t u old new : List ℕ} {r : Result ℕ Refusal} → t ≡ u → Answer t old new r → Answer u old new r
answer_as {old = old} {new = new} {r = r} e a = subst (λ (x : List ℕ). Answer x old new r) e a
