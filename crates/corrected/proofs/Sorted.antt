-- Laws of lines as a set: lines that rise are in order, and where a line of a key is put among them or left out. Assumes nothing.
use Prim.Native.Nat.{ℕ}
use native.Mathlib.Omega.{arith}
use mathlib.Core.Path.{◌≡◌, refl, sym, ap, subst, ◌∙◌}
use mathlib.Core.Bool.{Bool, true, false}
use mathlib.Core.List.{List, [], ◌∷◌, ◌++◌, append_assoc}
use Rattle.runs.specs.Runs.{pick, same_text, cmp, is_less}
use Rattle.std.specs.declared.cmp.Ordering.{Ordering}
use Rattle.std.specs.declared.cmp.Ordering.TheVariants.{Less, Equal, Greater}
use Rattle.runs.proofs.Ordered.{cmp_trans, cmp_turned, cmp_equal, same_cmp, same_refl, is_equal, turned}
use Rattle.sheet.specs.Forms.{Entry, written, key}
use Rattle.sheet.specs.Lines.{sheet_text}
use Rattle.sheet.specs.Replies.{unknown, reply_in}
use Rattle.sheet.proofs.Texts.{Good, Rises}
use Rattle.corrected.specs.Sets.{without, having, placed, in_order}

-- all lines of a list stand below a key, or above it, or have another one
abbrev pub Below : List ℕ → List Entry → Type 0
Below q [] = Unit {0}
Below q (f ∷ fs) = (cmp (key f) q ≡ Less) × Below q fs

abbrev pub Above : List ℕ → List Entry → Type 0
Above q [] = Unit {0}
Above q (f ∷ fs) = (cmp q (key f) ≡ Less) × Above q fs

abbrev pub Apart : List ℕ → List Entry → Type 0
Apart q [] = Unit {0}
Apart q (f ∷ fs) = (same_text (key f) q ≡ false) × Apart q fs

pub below_other : (a b : List ℕ) → cmp a b ≡ Less → same_text a b ≡ false
below_other a b e = same_cmp a b ∙ ap is_equal e

pub above_other : (a b : List ℕ) → cmp b a ≡ Less → same_text a b ≡ false
above_other a b e = same_cmp a b ∙ ap is_equal (cmp_turned b a ∙ ap turned e)

pub above_lower : (q k : List ℕ) (es : List Entry) → cmp q k ≡ Less → Above k es → Above q es
above_lower q k [] h a = tt
above_lower q k (f ∷ es) h a = (cmp_trans q k (key f) h a.0, above_lower q k es h a.1)

-- lines that rise stand above what they rise from, and in order
pub rises_above : (last : List ℕ) (es : List Entry) → Rises last es → Above last es
rises_above last [] r = tt
rises_above last (e ∷ es) r = (r.1, above_lower last (key e) es r.1 (rises_above (key e) es r.2))

pub placed-above : (e : Entry) (es : List Entry) → Above (key e) es → placed e es ≡ e ∷ es
placed-above e [] a = refl
placed-above e (f ∷ es) a = rw a.0

pub in_order_lem : (last : List ℕ) (es : List Entry) → Rises last es → in_order es ≡ es
in_order_lem last [] r = refl
in_order_lem last (e ∷ es) r = ap (placed e) (in_order_lem (key e) es r.2) ∙ placed-above e es (rises_above (key e) es r.2)

-- the lines before a key, and those behind it, are passed over
module _ (q : List ℕ) where
  pub without-below : (xs ys : List Entry) → Below q xs → without q (xs ++ ys) ≡ xs ++ without q ys
  without-below [] ys b = refl
  without-below (f ∷ xs) ys b = rw (below_other (key f) q b.0) (ap (λ (l : List Entry). f ∷ l) (without-below xs ys b.1))

  pub without-above : (ys : List Entry) → Above q ys → without q ys ≡ ys
  without-above [] a = refl
  without-above (f ∷ ys) a = rw (above_other (key f) q a.0) (ap (λ (l : List Entry). f ∷ l) (without-above ys a.1))

  pub reply-below : (xs ys : List Entry) → Below q xs → reply_in (xs ++ ys) q ≡ reply_in ys q
  reply-below [] ys b = refl
  reply-below (f ∷ xs) ys b = rw (below_other (key f) q b.0) (reply-below xs ys b.1)

  pub reply_apart : (ys : List Entry) → Apart q ys → reply_in ys q ≡ unknown
  reply_apart [] a = refl
  reply_apart (f ∷ ys) a = rw a.0 (reply_apart ys a.1)

  pub above_apart : (ys : List Entry) → Above q ys → Apart q ys
  above_apart [] a = tt
  above_apart (f ∷ ys) a = (above_other (key f) q a.0, above_apart ys a.1)

pub placed_below : (e : Entry) (xs ys : List Entry) → Below (key e) xs → placed e (xs ++ ys) ≡ xs ++ placed e ys
placed_below e [] ys b = refl
placed_below e (f ∷ xs) ys b =
    let t : cmp (key e) (key f) ≡ Greater = cmp_turned (key f) (key e) ∙ ap turned b.0 in
    rw t (ap (λ (l : List Entry). f ∷ l) (placed_below e xs ys b.1))

-- lines that rise go on rising without one of them, and with another at its place
pub rises_lower : (p last : List ℕ) (es : List Entry) → cmp p last ≡ Less → Rises last es → Rises p es
rises_lower p last [] h r = tt
rises_lower p last (e ∷ es) h r = (r.0, cmp_trans p last (key e) h r.1, r.2)

pub rises_tail : (last : List ℕ) (xs : List Entry) (f : Entry) (zs : List Entry) → Rises last (xs ++ f ∷ zs) → Rises (key f) zs
rises_tail last [] f zs r = r.2
rises_tail last (x ∷ xs) f zs r = rises_tail (key x) xs f zs r.2

pub rises_without : (q last : List ℕ) (es : List Entry) → Rises last es → Rises last (without q es)
rises_without q last [] r = tt
rises_without q last (e ∷ es) r = by (same_text (key e) q) (rises_without q (key e) es r.2)
  where
    by : (b : Bool) → Rises (key e) (without q es) → Rises last (pick b (without q es) (e ∷ without q es))
    by true w = rises_lower last (key e) (without q es) r.1 w
    by false w = (r.0, r.1, w)

pub without_apart : (q : List ℕ) (es : List Entry) → Apart q (without q es)
without_apart q [] = tt
without_apart q (e ∷ es) = by (same_text (key e) q) refl (without_apart q es)
  where
    by : (b : Bool) → same_text (key e) q ≡ b → Apart q (without q es) → Apart q (pick b (without q es) (e ∷ without q es))
    by true h a = a
    by false h a = (h, a)

pub rises_placed : (e : Entry) → Good e → (last : List ℕ) (es : List Entry) → cmp last (key e) ≡ Less → Apart (key e) es → Rises last es → Rises last (placed e es)
rises_placed e g last [] h a r = (g, h, tt)
rises_placed e g last (f ∷ es) h a r = by (cmp (key e) (key f)) refl (rises_placed e g (key f) es)
  where
    by : (o : Ordering) → cmp (key e) (key f) ≡ o → (cmp (key f) (key e) ≡ Less → Apart (key e) es → Rises (key f) es → Rises (key f) (placed e es))
        → Rises last (pick (is_less o) (e ∷ f ∷ es) (f ∷ placed e es))
    by Less p rest = (g, h, (r.0, p, r.2))
    by Equal p rest =
        let s : same_text (key f) (key e) ≡ true = ap (λ (k : List ℕ). same_text (key f) k) (cmp_equal (key e) (key f) p) ∙ same_refl (key f) in
        let z : ◌≡◌ {A = Bool} true false = sym s ∙ a.0 in
        let y : ◌≡◌ {A = ℕ} 0 1 = cc in absurd (omega arith)
    by Greater p rest = (r.0, r.1, rest (cmp_turned (key e) (key f) ∙ ap turned p) a.1 r.2)

-- the lines of an edit, in order
module _ (es : List Entry) (r : Rises [] es) where
  pub withdrawn_order : (q : List ℕ) → in_order (without q es) ≡ without q es
  withdrawn_order q = in_order_lem [] (without q es) (rises_without q [] es r)

  pub put_order : (e : Entry) → in_order (having e es) ≡ placed e (without (key e) es)
  put_order e = ap (placed e) (withdrawn_order (key e))

  pub withdrawn_rises : (q : List ℕ) → Rises [] (in_order (without q es))
  withdrawn_rises q = subst (Rises []) (sym (withdrawn_order q)) (rises_without q [] es r)

  pub put_rises : (e : Entry) → Good e → Rises [] (in_order (having e es))
  put_rises e g = subst (Rises []) (sym (put_order e)) (rises_placed e g [] (without (key e) es) refl (without_apart (key e) es) (rises_without (key e) [] es r))

pub text-both : (xs ys : List Entry) → sheet_text (xs ++ ys) ≡ sheet_text xs ++ sheet_text ys
text-both [] ys = refl
text-both (x ∷ xs) ys = ap (λ (t : List ℕ). written x ++ t) (text-both xs ys) ∙ sym (append_assoc (written x) (sheet_text xs) (sheet_text ys))
