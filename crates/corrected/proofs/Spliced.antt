-- Bytes moved inside a buffer, one by one, a part of a front, and a text put in the place of others. `splice` moves bytes by the library's
-- `copy_within`: its proof cites the last law alone. Assumes nothing.
use Prim.Native.Nat.{ℕ, zero, suc, ◌+◌, ◌-◌, ◌≤◌, ◌<◌}
use native.Mathlib.Omega.{arith}
use native.Mathlib.Numerals.{add-one}
use native.Mathlib.Nat.{add-suc, suc-add, sub-zero}
use mathlib.Core.Path.{◌≡◌, sym, ap, ◌∙◌}
use mathlib.Core.List.{List, [], ◌∷◌, ◌++◌, append_assoc}
use lib.ListN.{length, take, drop, get_or, set, length-drop}
use borrow.Rule.Slice.PartMut.{put_mid, Post-is}
use lib.Seq.{take-nil, paste, paste-suc, drop-paste, take-paste, length-paste, take-suc, set_at, take_at, drop_at, take-take, drop-cons, get_or-drop, get_or-take, length-take-le}

-- a byte that lies from `low` on is as it was where all from there on is; one before `high` where all before it is
pub behind_same : (a b : List ℕ) (low i : ℕ) → low ≤ i → drop low a ≡ drop low b → get_or a i 0 ≡ get_or b i 0
behind_same a b low i h e =
    let n : low + (i - low) ≡ i = omega arith in
    ap (λ (k : ℕ). get_or a k 0) (sym n) ∙ sym (get_or-drop low a (i - low) 0) ∙ ap (λ (l : List ℕ). get_or l (i - low) 0) e ∙ get_or-drop low b (i - low) 0
    ∙ ap (λ (k : ℕ). get_or b k 0) n

pub before_same : (a b : List ℕ) (high i : ℕ) → i < high → take high a ≡ take high b → get_or a i 0 ≡ get_or b i 0
before_same a b high i h e = sym (get_or-take high a i 0 h) ∙ ap (λ (l : List ℕ). get_or l i 0) e ∙ get_or-take high b i 0 h

-- towards the front: k bytes are moved, the next is moved
module _ (old buf : List ℕ) (from to k : ℕ) (e : buf ≡ paste old to (drop from old) k) (h : to ≤ from) (l : from + k < length old) where
  fits : k < length (drop from old)
  fits = omega (arith, length-drop from old)

  pub down_turn : set buf (to + k) (get_or buf (from + k) 0) ≡ paste old to (drop from old) (k + 1)
  down_turn =
      let d : drop (to + k) buf ≡ drop (to + k) old = ap (drop (to + k)) e ∙ drop-paste old to (drop from old) k (omega arith) (omega (arith, fits)) in
      let x : get_or buf (from + k) 0 ≡ get_or (drop from old) k 0 = behind_same buf old (to + k) (from + k) (omega arith) d ∙ sym (get_or-drop from old k 0) in
      ap (λ (b : List ℕ). set b (to + k) (get_or buf (from + k) 0)) e
      ∙ ap (set (paste old to (drop from old) k) (to + k)) x
      ∙ paste-suc old to (drop from old) k 0 (omega arith) fits
      ∙ ap (paste old to (drop from old)) (sym (add-one k))

-- a byte stored in front of what was pasted
pub paste_front : (d s : List ℕ) (a b m : ℕ) → a < length d → b < length s → set (paste d (suc a) (drop (suc b) s) m) a (get_or s b 0) ≡ paste d a (drop b s) (suc m)
paste_front d s a b m h l =
    let t = take m (drop (suc b) s) in
    let rest = drop (suc a + m) d in
    let x = get_or s b 0 in
    let n : length (take a d) ≡ a = length-take-le a d (omega arith) in
    let p : (take (suc a) d ++ t) ++ rest ≡ take a d ++ get_or d a 0 ∷ (t ++ rest) =
    append_assoc (take (suc a) d) t rest
    ∙ ap (λ (y : List ℕ). y ++ (t ++ rest)) (take-suc d a 0 h)
    ∙ append_assoc (take a d) (get_or d a 0 ∷ []) (t ++ rest) in
    let q : paste d a (drop b s) (suc m) ≡ take a d ++ x ∷ (t ++ rest) =
    ap (λ (y : List ℕ). (take a d ++ take (suc m) y) ++ drop (a + suc m) d) (drop-cons s b 0 l)
    ∙ append_assoc (take a d) (x ∷ t) (drop (a + suc m) d)
    ∙ ap (λ (k : ℕ). take a d ++ x ∷ (t ++ drop k d)) (add-suc a m ∙ sym (suc-add a m)) in
    ap (λ (y : List ℕ). set y a x) p ∙ set_at (take a d) (get_or d a 0) (t ++ rest) x a n ∙ sym q

-- towards the end: all but k bytes are moved, the last of these k is moved
module _ (old buf : List ℕ) (from to n k j : ℕ) (p : k ≡ j + 1) (q : k ≤ n) (e : buf ≡ paste old (to + k) (drop (from + k) old) (n - k))
    (h : from ≤ to) (l : to + n ≤ length old) where
  pub up_turn : set buf (to + j) (get_or buf (from + j) 0) ≡ paste old (to + j) (drop (from + j) old) (n - j)
  up_turn =
      let f : n - k ≤ length (drop (from + k) old) = omega (arith, length-drop (from + k) old) in
      let t : take (to + k) buf ≡ take (to + k) old =
      sym (take-take (to + k) (to + k + (n - k)) buf (omega arith))
      ∙ ap (take (to + k)) (ap (take (to + k + (n - k))) e ∙ take-paste old (to + k) (drop (from + k) old) (n - k) (omega arith) f)
      ∙ take_at (take (to + k) old) (take (n - k) (drop (from + k) old)) (to + k) (length-take-le (to + k) old (omega arith)) in
      let x : get_or buf (from + j) 0 ≡ get_or old (from + j) 0 = before_same buf old (to + k) (from + j) (omega arith) t in
      let a : to + k ≡ suc (to + j) = omega arith in
      let b : from + k ≡ suc (from + j) = omega arith in
      let c : suc (n - k) ≡ n - j = omega arith in
      ap (λ (y : List ℕ). set y (to + j) (get_or buf (from + j) 0)) e
      ∙ ap (set (paste old (to + k) (drop (from + k) old) (n - k)) (to + j)) x
      ∙ ap (λ (i : ℕ). set (paste old i (drop (from + k) old) (n - k)) (to + j) (get_or old (from + j) 0)) a
      ∙ ap (λ (i : ℕ). set (paste old (suc (to + j)) (drop i old) (n - k)) (to + j) (get_or old (from + j) 0)) b
      ∙ paste_front old old (to + j) (from + j) (n - k) (omega arith) (omega arith)
      ∙ ap (paste old (to + j) (drop (from + j) old)) c

-- a part of a front
pub drop-front : (m n : ℕ) (l : List ℕ) → drop m (take n l) ≡ take (n - m) (drop m l)
drop-front zero n l = ap (λ (k : ℕ). take k l) (sym (sub-zero n))
drop-front (suc m) zero l = let z : zero - suc m ≡ zero = omega arith in sym (ap (λ (k : ℕ). take k (drop (suc m) l)) z)
drop-front (suc m) (suc n) [] = sym (take-nil (suc n - suc m))
drop-front (suc m) (suc n) (x ∷ l) = let z : suc n - suc m ≡ n - m = omega arith in drop-front m n l ∙ ap (λ (k : ℕ). take k (drop m l)) (sym z)

-- what stands behind byte `to` is moved behind the text, and the text is copied into its place
pub replaced : (old text moved part : List ℕ) (from to used : ℕ) → from ≤ to → to ≤ used → used ≤ length old → from + length text + (used - to) ≤ length old
    → moved ≡ paste old (from + length text) (drop to old) (used - to)
    → part ≡ text
    → put_mid from (from + length text - from) moved part ≡ (take from old ++ (text ++ take (used - to) (drop to old))) ++ drop (from + length text + (used - to)) old
replaced old text moved part from to used a b c d e q =
    let end = from + length text in
    let n = used - to in
    let t = take n (drop to old) in
    let rest = drop (end + n) old in
    let i : n ≤ length (drop to old) = omega (arith, length-drop to old) in
    let x : length moved ≡ length old = ap length e ∙ length-paste old end (drop to old) n (omega arith) i in
    let k : end - from ≡ length text = omega arith in
    let u : drop end moved ≡ t ++ rest = ap (drop end) (e ∙ append_assoc (take end old) t rest) ∙ drop_at (take end old) (t ++ rest) end (length-take-le end old (omega arith)) in
    let v : take from moved ≡ take from old =
    ap (take from) (e ∙ append_assoc (take end old) t rest) ∙ front_of from end old (t ++ rest) (omega arith) (omega arith) in
    ap (λ (y : List ℕ). take from moved ++ (y ++ drop (end - from) (drop from moved))) q
    ∙ ap (λ (y : List ℕ). take from moved ++ (text ++ y)) (Post-is from end moved (omega arith) ∙ u)
    ∙ ap (λ (y : List ℕ). y ++ (text ++ (t ++ rest))) v
    ∙ ap (λ (y : List ℕ). take from old ++ y) (sym (append_assoc text t rest))
    ∙ sym (append_assoc (take from old) (text ++ t) rest)
  where
    front_of : (m n : ℕ) (l r : List ℕ) → m ≤ n → n ≤ length l → take m (take n l ++ r) ≡ take m l
    front_of m n l r h k = sym (take-take m n (take n l ++ r) h) ∙ ap (take m) (take_at (take n l) r n (length-take-le n l k)) ∙ take-take m n l h
