-- A reading has exactly one path: `unique`. So the readings of a word are as many as its paths, and none is found twice. Assumes
-- nothing.
use Prim.Native.Nat.{ℕ, ◌+◌, ◌≤◌, ◌<◌}
use native.Mathlib.Omega.{arith}
use mathlib.Core.Path.{◌≡◌, refl, sym, ap, ◌∙◌, subst}
use mathlib.Core.Bool.{Bool, true, false}
use mathlib.Core.List.{List, [], ◌∷◌, ◌++◌, map, reverse, reverse-reverse, nil≢cons, cons≢nil, head-eq_of_cons-eq, tail-eq_of_cons-eq}
use lib.ListN.{length, get_or, length-append}
use lib.Seq.{length-take-le}
use lib.Dec.{ltb}
use Rattle.runs.specs.Runs.{pick, ends_in}
use Rattle.tables.specs.Tables.{affixes}
use Rattle.tables.proofs.Facts.{affix_text}
use Rattle.strips.specs.Suffix.{first_character, without}
use Rattle.strips.specs.Prefix.{after}
use Rattle.strips.proofs.Rows.{affix_first}
use Rattle.sheet.specs.Replies.{Ask}
use Rattle.paths.specs.Chains.{all_rows, Strip, text_of, rows_after, Suffixed, form_of, Prefixed, Route, PathOf}
use Rattle.paths.specs.Readings.{Parts, label_of, parts_of}
use Rattle.paths.proofs.Left.{kept, left-says, left-ends, prefix_says}
use Rattle.paths.proofs.Texts.{text-row, ends-once, label-row}

-- Suffixes.

pub rows_fewer : (row : ℕ) → rows_after row ≤ all_rows
rows_fewer row = go (ltb row 2)
  where
    go : (b : Bool) → pick b 0 18 ≤ all_rows
    go true = omega arith
    go false = omega arith

first_three : (k : ℕ) → k < all_rows → length (first_character (get_or affixes k [])) ≡ 3
first_three k h = rw (affix_first k h) (length-take-le 3 (get_or affixes k []) (affix_text k h).long)

module _ (ask : Ask) where
  -- strips with the same texts do not lead from a piece and from the piece with a character more to one stem
  apart : (p c : List ℕ) → length c ≡ 3 → (m n : ℕ) → m ≤ all_rows → (xs ys : List Strip) (stem : List ℕ) → Suffixed ask m p xs stem
      → Suffixed ask n (p ++ c) ys stem → map text_of xs ≡ map text_of ys → ⊥
  apart p c h m n l [] [] stem a b e =
      let z : length p ≡ length p + length c = ap length (a ∙ sym b) ∙ length-append p c in
      omega arith
  apart p c h m n l [] (y ∷ ys) stem a b e = nil≢cons e
  apart p c h m n l (x ∷ xs) [] stem a b e = cons≢nil e
  apart p c h m n l (x ∷ xs) (y ∷ ys) stem a b e =
      let i = a.0 in
      let k : x.row < all_rows = omega arith in
      ends-once x.row k p c h (affix_text x.row k).long (left-ends p x a.2.0 a.2.1)
      (subst (λ (t : List ℕ). ends_in t (p ++ c) ≡ true) (sym (head-eq_of_cons-eq e)) (left-ends (p ++ c) y b.2.0 b.2.1))

  -- so strips with the same texts, to one stem, share alike
  same_mark : (b d : Bool) (w t : List ℕ) → length (first_character t) ≡ 3 → (n : ℕ) → n ≤ all_rows → (xs ys : List Strip) (stem : List ℕ)
      → Suffixed ask n (kept b w t) xs stem → Suffixed ask n (kept d w t) ys stem → map text_of xs ≡ map text_of ys → b ≡ d
  same_mark true true w t h n l xs ys stem p q e = refl
  same_mark false false w t h n l xs ys stem p q e = refl
  same_mark false true w t h n l xs ys stem p q e = absurd (apart (without w t) (first_character t) h n n l xs ys stem p q e)
  same_mark true false w t h n l xs ys stem p q e = absurd (apart (without w t) (first_character t) h n n l ys xs stem q p (sym e))

  pub strips_unique : (n : ℕ) → n ≤ all_rows → (w : List ℕ) (xs ys : List Strip) (stem : List ℕ) → Suffixed ask n w xs stem → Suffixed ask n w ys stem
      → map text_of xs ≡ map text_of ys → xs ≡ ys
  strips_unique n l w [] [] stem p q e = refl
  strips_unique n l w [] (y ∷ ys) stem p q e = absurd (nil≢cons e)
  strips_unique n l w (x ∷ xs) [] stem p q e = absurd (cons≢nil e)
  strips_unique n l w (x ∷ xs) (y ∷ ys) stem p q e =
      let i = p.0 in
      let j = q.0 in
      let t = text_of x in
      let k : x.row < all_rows = omega arith in
      let r : x.row ≡ y.row = text-row x.row y.row k (omega arith) (head-eq_of_cons-eq e) in
      let a : Suffixed ask (rows_after x.row) (kept x.is_shared w t) xs stem =
      subst (λ (s : List ℕ). Suffixed ask (rows_after x.row) s xs stem) (left-says w x p.2.0 p.2.1).1 p.2.2 in
      let c : Suffixed ask (rows_after y.row) (kept y.is_shared w (text_of y)) ys stem =
      subst (λ (s : List ℕ). Suffixed ask (rows_after y.row) s ys stem) (left-says w y q.2.0 q.2.1).1 q.2.2 in
      let b : Suffixed ask (rows_after x.row) (kept y.is_shared w t) ys stem =
      subst (λ (k : ℕ). Suffixed ask (rows_after k) (kept y.is_shared w (get_or affixes k [])) ys stem) (sym r) c in
      let m : x.is_shared ≡ y.is_shared =
      same_mark x.is_shared y.is_shared w t (first_three x.row k) (rows_after x.row) (rows_fewer x.row) xs ys stem a b (tail-eq_of_cons-eq e) in
      let d : Suffixed ask (rows_after x.row) (kept x.is_shared w t) ys stem =
      subst (λ (s : Bool). Suffixed ask (rows_after x.row) (kept s w t) ys stem) (sym m) b in
      let z : xs ≡ ys = strips_unique (rows_after x.row) (rows_fewer x.row) (kept x.is_shared w t) xs ys stem a d (tail-eq_of_cons-eq e) in
      λ i. record { row = r i; is_shared = m i } ∷ z i

  -- Prefixes.

  rows_unique : (piece : List ℕ) (xs ys : List ℕ) (a b : List ℕ) → Prefixed ask piece xs a → Prefixed ask piece ys b
      → map label_of xs ≡ map label_of ys → xs ≡ ys
  rows_unique piece [] [] a b p q e = refl
  rows_unique piece [] (y ∷ ys) a b p q e = absurd (nil≢cons e)
  rows_unique piece (x ∷ xs) [] a b p q e = absurd (cons≢nil e)
  rows_unique piece (x ∷ xs) (y ∷ ys) a b p q e =
      let f = prefix_says piece (form_of x) p.2.0 p.2.1 in
      let g = prefix_says piece (form_of y) q.2.0 q.2.1 in
      let r : x ≡ y = label-row piece x y p.0 q.0 f.0 g.0 (head-eq_of_cons-eq e) in
      let s : q.2.0 ≡ p.2.0 = g.1 ∙ ap (λ (k : ℕ). after piece (form_of k)) (sym r) ∙ sym f.1 in
      let z = rows_unique p.2.0 xs ys a b p.2.2 (subst (λ (s : List ℕ). Prefixed ask s ys b) s q.2.2) (tail-eq_of_cons-eq e) in
      λ i. r i ∷ z i

reverse-back : {A : Type 0} (xs ys : List A) → reverse xs ≡ reverse ys → xs ≡ ys
reverse-back xs ys e = sym (reverse-reverse xs) ∙ ap reverse e ∙ reverse-reverse ys

-- a reading has one path
pub unique : (ask : Ask) (w : List ℕ) (p q : Route) → PathOf ask w p → PathOf ask w q → parts_of p ≡ parts_of q → p ≡ q
unique ask w p q a b e =
    let s : p.stem ≡ q.stem = ap (λ (r : Parts). r.stem) e in
    let t : p.root ≡ q.root = ap (λ (r : Parts). r.root) e in
    let x : p.strips ≡ q.strips =
    strips_unique ask all_rows (omega arith) w p.strips q.strips q.stem (subst (Suffixed ask all_rows w p.strips) s a.suffixed) b.suffixed
    (reverse-back (map text_of p.strips) (map text_of q.strips) (ap (λ (r : Parts). r.suffixes) e)) in
    let y : p.prefix_rows ≡ q.prefix_rows =
    rows_unique ask q.stem p.prefix_rows q.prefix_rows p.root q.root
    (subst (λ (s : List ℕ). Prefixed ask s p.prefix_rows p.root) s a.prefixed) b.prefixed (ap (λ (r : Parts). r.prefixes) e) in
    λ i. record { strips = x i; stem = s i; prefix_rows = y i; root = t i }
