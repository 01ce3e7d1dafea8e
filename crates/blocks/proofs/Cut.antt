-- A case is cut from its text: behind two numbers the word, the sheet, and the rest. Assumes nothing.
use Rattle.std.proofs.Common.{◌≡◌, ℕ, ◌+◌, ◌<◌, ◌≤◌, List, [], length, take, drop, ap, ◌∙◌, arith, length-drop, drop-drop}
use Rattle.std.proofs.lemmas.List.{length-take-le}
use Rattle.std.proofs.Math.Seq.{take-add, drop-length}
use Rattle.blocks.specs.Cases.{Behind, CutFrom}

-- what is left of s from some byte on
pub record Left (s rest : List ℕ) : Type 0 where
  pub next : ℕ
  pub left : rest ≡ drop next s

-- behind the numbers stand a word of n bytes and a sheet of m
pub cut : (s after behind word sheet : List ℕ) (n m k : ℕ) → Behind s after → Behind after behind → 0 < length s → n + m ≤ length behind → k ≤ 1
    → word ≡ take n behind → sheet ≡ take m (drop n behind) → CutFrom s word sheet (drop k (drop m (drop n behind)))
cut s after behind word sheet n m k p q h l one e f =
    let i = p.next + q.next in
    let b : behind ≡ drop i s = q.left ∙ ap (drop q.next) p.left ∙ drop-drop q.next p.next s in
    let w : length word ≡ n = ap length e ∙ length-take-le n behind (omega arith) in
    let t : length sheet ≡ m = ap length f ∙ length-take-le m (drop n behind) (simp length-drop (omega arith)) in
    let d : length behind ≤ length after = rw q.left (simp length-drop (omega arith)) in
    record {
      start = i;
      case = rw (w, t, ← b) (take-add n m behind ∙ rw (← e, ← f));
      next = i + n + m + k;
      left = rw b (simp drop-drop);
      from_sheet = omega arith;
      one_more = omega arith;
      shorter = simp (length-drop) (omega (arith, p.shorter h));
    }

-- nothing, at the end
pub cut_end : (s none : List ℕ) → 0 < length s → none ≡ drop (length s) s → CutFrom s none none none
cut_end s none h e =
    let z : none ≡ [] = e ∙ drop-length s in
    record {
      start = length s;
      case = rw (drop-length s, z);
      next = length s;
      left = e;
      from_sheet = rw z (omega arith);
      one_more = rw z (omega arith);
      shorter = rw z h;
    }
