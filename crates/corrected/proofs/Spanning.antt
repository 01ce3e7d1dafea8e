-- Where a line stands in an accepted sheet, from the number of lines below it: the bytes before, of and behind it. The proof of `span_of` cites
-- these. Assumes nothing.
use Rattle.std.specs.Prelude.{Ok}
use Prim.Native.Nat.{ℕ, zero, suc, ◌+◌, ◌-◌, ◌≤◌, ◌<◌}
use native.Mathlib.Omega.{arith}
use mathlib.Core.Path.{◌≡◌, refl, sym, ap, subst, ◌∙◌}
use mathlib.Core.Bool.{Bool, true}
use mathlib.Core.List.{List, [], ◌∷◌, ◌++◌, map, append-nil, append_assoc}
use lib.ListN.{length, take, drop, get_or, length-append, length-map, take-append-drop, drop_of_length-le}
use lib.Seq.{take_at, drop_at, take_all}
use Rattle.runs.specs.Runs.{pick, same_text, cmp}
use Rattle.std.specs.declared.cmp.Ordering.{Ordering}
use Rattle.std.specs.declared.cmp.Ordering.TheVariants.{Less, Equal, Greater}
use Rattle.runs.proofs.Ordered.{Stand, stand, cmp_trans, cmp_turned, cmp_equal, same_cmp, is_equal, turned, and_then}
use Rattle.sheet.specs.Forms.{Entry, written, key, key_of}
use Rattle.sheet.specs.Keys.{headed}
use Rattle.sheet.specs.Lines.{starts_from, starts_of, line_at, lines_of, sheet_text, sheet_check}
use Rattle.sheet.specs.Replies.{unknown, told, reply_in, Indexed}
use Rattle.sheet.proofs.Accepted.{GoesUp, accepted_up, up_above}
use Rattle.sheet.proofs.Forms.{written-length}
use Rattle.sheet.proofs.Spaced.{head-parts}
use Rattle.sheet.proofs.Texts.{Rises, accepted_rises, accepted-text, start_at}
use Rattle.lookup.specs.Begins.{headed_at, Begun}
use Rattle.lookup.specs.declared.begins.Range.{Range}
use Rattle.corrected.specs.Sets.{without, having, placed, afresh}
use Rattle.corrected.specs.Spans.{Spanned}
use Rattle.corrected.proofs.Sorted.{Below, Above, rises_above, above_lower, placed-above, placed_below, without-below, without-above, reply-below, reply_apart, above_apart, rises_tail, withdrawn_order, put_order, text-both}

-- the lines of an accepted sheet are those below the key q and the others, of which the first begins at byte n
module _ (s q : List ℕ) (h : sheet_check s ≡ Ok tt) (xs ys : List Entry) (e : lines_of s ≡ xs ++ ys) (n : ℕ) (l : length (sheet_text xs) ≡ n) (b : Below q xs) where
  whole : s ≡ sheet_text xs ++ sheet_text ys
  whole = sym (accepted-text s h) ∙ ap sheet_text e ∙ text-both xs ys

  front : take n s ≡ sheet_text xs
  front = ap (take n) whole ∙ take_at (sheet_text xs) (sheet_text ys) n l

  rest : drop n s ≡ sheet_text ys
  rest = ap (drop n) whole ∙ drop_at (sheet_text xs) (sheet_text ys) n l

  short : n ≤ length s
  short = omega (arith, ap length whole, length-append (sheet_text xs) (sheet_text ys), l)

  rises : Rises [] (lines_of s)
  rises = accepted_rises s h

  -- what an edit leaves, where zs are the lines behind the key
  module _ (zs : List Entry) (a : Above q zs) (w : without q ys ≡ zs) where
    left : without q (lines_of s) ≡ xs ++ zs
    left = ap (without q) e ∙ without-below q xs ys b ∙ ap (λ (m : List Entry). xs ++ m) w

    gone-text : afresh (without q (lines_of s)) ≡ take n s ++ sheet_text zs
    gone-text = ap sheet_text (withdrawn_order (lines_of s) rises q ∙ left) ∙ text-both xs zs ∙ ap (λ (t : List ℕ). t ++ sheet_text zs) (sym front)

    put-text : (x : Entry) → key x ≡ q → afresh (having x (lines_of s)) ≡ take n s ++ (written x ++ sheet_text zs)
    put-text x k =
        let o : without (key x) (lines_of s) ≡ xs ++ zs = ap (λ (y : List ℕ). without y (lines_of s)) k ∙ left in
        ap sheet_text
        (put_order (lines_of s) rises x
        ∙ ap (placed x) o
        ∙ placed_below x xs zs (subst (λ (y : List ℕ). Below y xs) (sym k) b)
        ∙ ap (λ (m : List Entry). xs ++ m) (placed-above x zs (subst (λ (y : List ℕ). Above y zs) (sym k) a)))
        ∙ text-both xs (x ∷ zs)
        ∙ ap (λ (t : List ℕ). t ++ sheet_text (x ∷ zs)) (sym front)

  -- no line has the key
  pub lone-span : Above q ys → Spanned s q (record { from = n; to = n })
  lone-span a =
      let w = without-above q ys a in
      record {
        ordered = omega arith;
        inside = short;
        put = λ x k. put-text ys a w x k ∙ ap (λ (t : List ℕ). take n s ++ (written x ++ t)) (sym rest);
        gone = gone-text ys a w ∙ ap (λ (t : List ℕ). take n s ++ t) (sym rest);
        lone = λ _. ap (λ (m : List Entry). reply_in m q) e ∙ reply-below q xs ys b ∙ reply_apart q ys (above_apart q ys a);
        held = λ k. absurd (omega arith);
      }

  -- the line f has it
  pub held-span : (f : Entry) (zs : List Entry) → ys ≡ f ∷ zs → cmp (key f) q ≡ Equal → (m : ℕ) → m ≡ n + length (written f) → Spanned s q (record { from = n; to = m })
  held-span f zs y o m z =
      let k : key f ≡ q = cmp_equal (key f) q o in
      let t : same_text (key f) q ≡ true = same_cmp (key f) q ∙ ap is_equal o in
      let r : Rises [] (xs ++ f ∷ zs) = subst (Rises []) (e ∙ ap (λ (v : List Entry). xs ++ v) y) rises in
      let a : Above q zs = subst (λ (v : List ℕ). Above v zs) k (rises_above (key f) zs (rises_tail [] xs f zs r)) in
      let w : without q ys ≡ zs = ap (without q) y ∙ ap (λ (v : Bool). pick v (without q zs) (f ∷ without q zs)) t ∙ without-above q zs a in
      let d : drop m s ≡ sheet_text zs =
      ap (drop m) (whole ∙ ap (λ (v : List Entry). sheet_text xs ++ sheet_text v) y ∙ sym (append_assoc (sheet_text xs) (written f) (sheet_text zs)))
      ∙ drop_at (sheet_text xs ++ written f) (sheet_text zs) m (length-append (sheet_text xs) (written f) ∙ ap (λ (v : ℕ). v + length (written f)) l ∙ sym z) in
      let i : length s ≡ length (sheet_text xs) + (length (written f) + length (sheet_text zs)) =
      ap length (whole ∙ ap (λ (v : List Entry). sheet_text xs ++ sheet_text v) y) ∙ length-append (sheet_text xs) (sheet_text (f ∷ zs))
      ∙ ap (λ (v : ℕ). length (sheet_text xs) + v) (length-append (written f) (sheet_text zs)) in
      record {
        ordered = omega arith;
        inside = omega arith;
        put = λ x v. put-text zs a w x v ∙ ap (λ (u : List ℕ). take n s ++ (written x ++ u)) (sym d);
        gone = gone-text zs a w ∙ ap (λ (u : List ℕ). take n s ++ u) (sym d);
        lone = λ v. absurd (omega (arith, written-length f));
        held = λ _ v.
            let u : told f.value ≡ unknown =
            sym (ap (λ (g : List Entry). reply_in g q) (e ∙ ap (λ (g : List Entry). xs ++ g) y) ∙ reply-below q xs (f ∷ zs) b ∙ ap (λ (g : Bool). pick g (told f.value) (reply_in zs q)) t) ∙ v in
            let x : ◌≡◌ {A = ℕ} 0 1 = cc in absurd (omega arith);
      }

-- the first j + 1 lines stand below q where the last of them does
below-upto : (s q last places : List ℕ) (j : ℕ) → GoesUp s last places → j < length places → cmp (key (line_at s (get_or places j 0))) q ≡ Less
    → Below q (take (suc j) (map (line_at s) places))
below-upto s q last [] j g h e = absurd (omega arith)
below-upto s q last (at ∷ places) zero g h e = (e, tt)
below-upto s q last (at ∷ places) (suc j) g h e =
    (cmp_trans (key (line_at s at)) (key (line_at s (get_or places j 0))) q (up_above s (key (line_at s at)) places j g.2 (omega arith)) e, below-upto s q (key (line_at s at)) places j g.2 (omega arith) e)

-- the lines from number i on
from-number : (s places : List ℕ) (i : ℕ) → i < length places → drop i (map (line_at s) places) ≡ line_at s (get_or places i 0) ∷ drop (suc i) (map (line_at s) places)
from-number s [] i h = absurd (omega arith)
from-number s (at ∷ places) zero h = refl
from-number s (at ∷ places) (suc i) h = from-number s places i (omega arith)

-- a line that stands below all that begin with a key stands below the key, and one that does not, does not
head_less : (n q : List ℕ) → headed n q ≡ Less → cmp n q ≡ Less
head_less n q e = ap (cmp n) (sym (append-nil q)) ∙ head-parts n q [] ∙ ap (λ (o : Ordering). and_then o (cmp (drop (length q) n) [])) e

never_less : (n : List ℕ) → cmp n [] ≡ Less → ⊥
never_less [] e = let z : ◌≡◌ {A = ℕ} 0 1 = cc in omega arith
never_less (x ∷ n) e = let z : ◌≡◌ {A = ℕ} 0 1 = cc in omega arith

less_head : (n q : List ℕ) → cmp n q ≡ Less → headed n q ≡ Less
less_head n q e = go (headed n q) refl
  where
    f : (o : Ordering) → headed n q ≡ o → and_then o (cmp (drop (length q) n) []) ≡ Less
    f o p = sym (ap (cmp n) (sym (append-nil q)) ∙ head-parts n q [] ∙ ap (λ (y : Ordering). and_then y (cmp (drop (length q) n) [])) p) ∙ e

    go : (o : Ordering) → headed n q ≡ o → headed n q ≡ Less
    go Less p = p
    go Equal p = absurd (never_less (drop (length q) n) (f Equal p))
    go Greater p = let y : Greater ≡ Less = f Greater p in let z : ◌≡◌ {A = ℕ} 0 1 = cc in absurd (omega arith)

-- the lines that begin with the name, by their numbers, tell how many lines stand below its key
module _ (s starts : List ℕ) (letter : ℕ) (name : List ℕ) (x : Indexed s starts) (r : Range) (g : Begun s starts letter name r) where
  abbrev q : List ℕ
  q = key_of letter name

  up : GoesUp s [] starts
  up = subst (GoesUp s []) (sym x.listed) (accepted_up s x.accepted)

  lines : lines_of s ≡ map (line_at s) starts
  lines = ap (map (line_at s)) (sym x.listed)

  count : length (lines_of s) ≡ length starts
  count = ap length lines ∙ length-map starts (line_at s)

  below : Below q (take r.lo (lines_of s))
  below = subst (λ (m : List Entry). Below q (take r.lo m)) (sym lines) (by r.lo g.below (omega (arith, g.ordered, g.inside)))
    where
      by : (i : ℕ) → (0 < i → headed_at s starts letter name (i - 1) ≡ Less) → i ≤ length starts → Below q (take i (map (line_at s) starts))
      by zero k m = tt
      by (suc j) k m =
          let p : suc j - 1 ≡ j = omega arith in
          below-upto s q [] starts j up (omega arith) (head_less (key (line_at s (get_or starts j 0))) q (ap (headed_at s starts letter name) (sym p) ∙ k (omega arith)))

  parted : lines_of s ≡ take r.lo (lines_of s) ++ drop r.lo (lines_of s)
  parted = sym (take-append-drop r.lo (lines_of s))

  -- all lines stand below it
  pub span-end : length starts ≤ r.lo → Spanned s q (record { from = length s; to = length s })
  span-end h =
      let t : take r.lo (lines_of s) ≡ lines_of s = take_all r.lo (lines_of s) (omega (arith, count)) in
      let i : length (lines_of s) ≤ r.lo = omega (arith, count) in
      let d : drop r.lo (lines_of s) ≡ [] = drop_of_length-le (lines_of s) i in
      lone-span s q x.accepted (take r.lo (lines_of s)) (drop r.lo (lines_of s)) parted (length s)
      (ap length (ap sheet_text t ∙ accepted-text s x.accepted)) below (subst (Above q) (sym d) tt)

  -- or line number lo is the first that does not, and begins at byte `at`
  module _ (h : r.lo < length starts) (at : ℕ) (p : at ≡ get_or starts r.lo 0) (o : Ordering) (c : o ≡ cmp (key (line_at s at)) q) where
    first : drop r.lo (lines_of s) ≡ line_at s at ∷ drop (suc r.lo) (lines_of s)
    first =
        ap (drop r.lo) lines ∙ from-number s starts r.lo h
        ∙ ap (λ (k : ℕ). line_at s k ∷ drop (suc r.lo) (map (line_at s) starts)) (sym p)
        ∙ ap (λ (m : List Entry). line_at s at ∷ drop (suc r.lo) m) (sym lines)

    place : length (sheet_text (take r.lo (lines_of s))) ≡ at
    place =
        let k = start_at 0 [] (lines_of s) (accepted_rises s x.accepted) r.lo (omega (arith, count)) in
        let z : get_or (starts_of s) r.lo 0 ≡ length (sheet_text (take r.lo (lines_of s))) =
        ap (λ (t : List ℕ). get_or (starts_from true 0 t) r.lo 0) (sym (accepted-text s x.accepted)) ∙ k ∙ omega arith in
        sym z ∙ ap (λ (m : List ℕ). get_or m r.lo 0) (sym x.listed) ∙ sym p

    pub span-held : o ≡ Equal → (m : ℕ) → m ≡ at + length (written (line_at s at)) → Spanned s q (record { from = at; to = m })
    span-held e m z =
        held-span s q x.accepted (take r.lo (lines_of s)) (drop r.lo (lines_of s)) parted at place below
        (line_at s at) (drop (suc r.lo) (lines_of s)) first (sym c ∙ e) m z

    pub span-lone : o ≡ Greater → Spanned s q (record { from = at; to = at })
    span-lone e =
        let k : cmp q (key (line_at s at)) ≡ Less = cmp_turned (key (line_at s at)) q ∙ ap turned (sym c ∙ e) in
        let w : Rises [] (take r.lo (lines_of s) ++ line_at s at ∷ drop (suc r.lo) (lines_of s)) =
        subst (Rises []) (parted ∙ ap (λ (m : List Entry). take r.lo (lines_of s) ++ m) first) (accepted_rises s x.accepted) in
        let a = above_lower q (key (line_at s at)) (drop (suc r.lo) (lines_of s)) k
        (rises_above (key (line_at s at)) (drop (suc r.lo) (lines_of s)) (rises_tail [] (take r.lo (lines_of s)) (line_at s at) (drop (suc r.lo) (lines_of s)) w)) in
        lone-span s q x.accepted (take r.lo (lines_of s)) (drop r.lo (lines_of s)) parted at place below (subst (Above q) (sym first) (k, a))

    -- it does not stand below
    pub span_never : o ≡ Less → ⊥
    span_never e = by (stand r.lo r.hi)
      where
        less : headed_at s starts letter name r.lo ≡ Less
        less = ap (λ (k : ℕ). headed (key (line_at s k)) q) (sym p) ∙ less_head (key (line_at s at)) q (sym c ∙ e)

        by : Stand r.lo r.hi → ⊥
        by (Stand.below k) = let f : Less ≡ Equal = sym less ∙ g.each r.lo (omega arith) k in let z : ◌≡◌ {A = ℕ} 0 1 = cc in absurd (omega arith)
        by (Stand.above k) = absurd (omega (arith, g.ordered))
        by (Stand.alike k) =
            let f : Less ≡ Greater = sym less ∙ ap (headed_at s starts letter name) k ∙ g.above (omega arith) in
            let z : ◌≡◌ {A = ℕ} 0 1 = cc in absurd (omega arith)

    pub span-other : (o ≡ Equal → ⊥) → Spanned s q (record { from = at; to = at })
    span-other n = go o refl
      where
        go : (y : Ordering) → o ≡ y → Spanned s q (record { from = at; to = at })
        go Less e = absurd (span_never e)
        go Equal e = absurd (n e)
        go Greater e = span-lone e
