-- The lines of an edited sheet as a set, and what they reply. The promises rest on it. Assumes nothing.
use Prim.Native.Nat.{ℕ, ◌+◌, ◌≤◌}
use native.Mathlib.Omega.{arith}
use mathlib.Core.Path.{◌≡◌, refl, sym, ap, ◌∙◌}
use mathlib.Core.Bool.{Bool, true, false}
use mathlib.Core.Logic.{◌⊎◌, inl, inr, ⊎_elim}
use mathlib.Core.List.Memᴰ
use mathlib.Core.List.{List, [], ◌∷◌, ◌++◌, Memᴰ}
use lib.ListN.{length, length-append}
use Rattle.runs.specs.Runs.{pick, same_text, cmp, is_less}
use Rattle.std.specs.declared.cmp.Ordering.TheVariants.{Less, Equal}
use Rattle.runs.proofs.Ordered.{cmp_trans, cmp_refl, same_refl, same_true}
use Rattle.sheet.specs.Forms.{Entry, written, key}
use Rattle.sheet.specs.Lines.{sheet_text}
use Rattle.sheet.specs.Replies.{Reply, unknown, told, reply_in}
use Rattle.sheet.proofs.Texts.{Rises}
use Rattle.corrected.specs.Sets.{without, placed}
use Rattle.corrected.proofs.Sorted.{Above, Apart, rises_above}

-- two runs that are told apart differ, and two that differ are told apart
pub apart_differ : (a b : List ℕ) → same_text a b ≡ false → a ≡ b → ⊥
apart_differ a b h e =
    let z : ◌≡◌ {A = Bool} true false = sym (ap (same_text a) (sym e) ∙ same_refl a) ∙ h in
    let y : ◌≡◌ {A = ℕ} 0 1 = cc in omega arith

pub differ_apart : (a b : List ℕ) → (a ≡ b → ⊥) → same_text a b ≡ false
differ_apart a b h = by (same_text a b) refl
  where
    by : (t : Bool) → same_text a b ≡ t → same_text a b ≡ false
    by true e = absurd (h (same_true a b e))
    by false e = e

-- the lines but one
module _ (k : List ℕ) where
  pub from-without : (x : Entry) (es : List Entry) → Memᴰ x (without k es) → Memᴰ x es × (key x ≡ k → ⊥)
  from-without x [] m = absurd (Memᴰ.not-nil m)
  from-without x (f ∷ es) m = by (same_text (key f) k) refl m (from-without x es)
    where
      by : (b : Bool) → same_text (key f) k ≡ b → Memᴰ x (pick b (without k es) (f ∷ without k es)) → (Memᴰ x (without k es) → Memᴰ x es × (key x ≡ k → ⊥))
          → Memᴰ x (f ∷ es) × (key x ≡ k → ⊥)
      by true e m rest = let r = rest m in (Memᴰ.tail r.0, r.1)
      by false e m rest =
          ⊎_elim (λ p. (Memᴰ.head p, λ q. apart_differ (key f) k e (ap key (sym p) ∙ q))) (λ n. let r = rest n in (Memᴰ.tail r.0, r.1)) (Memᴰ.cases_cons m)

  pub to_without : (x : Entry) (es : List Entry) → Memᴰ x es → (key x ≡ k → ⊥) → Memᴰ x (without k es)
  to_without x [] m d = absurd (Memᴰ.not-nil m)
  to_without x (f ∷ es) m d = by (same_text (key f) k) refl (Memᴰ.cases_cons m) (λ n. to_without x es n d)
    where
      by : (b : Bool) → same_text (key f) k ≡ b → (x ≡ f) ⊎ Memᴰ x es → (Memᴰ x es → Memᴰ x (without k es)) → Memᴰ x (pick b (without k es) (f ∷ without k es))
      by true e (inl p) rest = absurd (d (ap key p ∙ same_true (key f) k e))
      by true e (inr n) rest = rest n
      by false e (inl p) rest = Memᴰ.head p
      by false e (inr n) rest = Memᴰ.tail (rest n)

  -- it replies as before to every other question, and to its own that there is none
  pub reply_others : (q : List ℕ) (es : List Entry) → (q ≡ k → ⊥) → reply_in (without k es) q ≡ reply_in es q
  reply_others q [] d = refl
  reply_others q (f ∷ es) d = by (same_text (key f) k) refl (reply_others q es d)
    where
      by : (b : Bool) → same_text (key f) k ≡ b → reply_in (without k es) q ≡ reply_in es q
          → reply_in (pick b (without k es) (f ∷ without k es)) q ≡ pick (same_text (key f) q) (told f.value) (reply_in es q)
      by true e r =
          let n : same_text (key f) q ≡ false = differ_apart (key f) q (λ p. d (sym p ∙ same_true (key f) k e)) in
          r ∙ sym (rw n)
      by false e r = ap (λ (x : Reply). pick (same_text (key f) q) (told f.value) x) r

-- the lines with one more
module _ (e : Entry) where
  pub from-placed : (x : Entry) (es : List Entry) → Memᴰ x (placed e es) → (x ≡ e) ⊎ Memᴰ x es
  from-placed x [] m = Memᴰ.cases_cons m
  from-placed x (f ∷ es) m = by (is_less (cmp (key e) (key f))) m (from-placed x es)
    where
      by : (b : Bool) → Memᴰ x (pick b (e ∷ f ∷ es) (f ∷ placed e es)) → (Memᴰ x (placed e es) → (x ≡ e) ⊎ Memᴰ x es) → (x ≡ e) ⊎ Memᴰ x (f ∷ es)
      by true m rest = Memᴰ.cases_cons m
      by false m rest =
          ⊎_elim (λ p. inr (Memᴰ.head p)) (λ n. ⊎_elim (λ p. inl p) (λ o. inr (Memᴰ.tail o)) (rest n)) (Memᴰ.cases_cons m)

  pub to_placed : (x : Entry) (es : List Entry) → (x ≡ e) ⊎ Memᴰ x es → Memᴰ x (placed e es)
  to_placed x [] m = ⊎_elim (λ p. Memᴰ.head p) (λ n. absurd (Memᴰ.not-nil n)) m
  to_placed x (f ∷ es) m = by (is_less (cmp (key e) (key f))) m (to_placed x es)
    where
      by : (b : Bool) → (x ≡ e) ⊎ Memᴰ x (f ∷ es) → ((x ≡ e) ⊎ Memᴰ x es → Memᴰ x (placed e es)) → Memᴰ x (pick b (e ∷ f ∷ es) (f ∷ placed e es))
      by true (inl p) rest = Memᴰ.head p
      by true (inr n) rest = Memᴰ.tail n
      by false (inl p) rest = Memᴰ.tail (rest (inl p))
      by false (inr n) rest = ⊎_elim (λ p. Memᴰ.head p) (λ o. Memᴰ.tail (rest (inr o))) (Memᴰ.cases_cons n)

  pub reply_beside : (q : List ℕ) (es : List Entry) → (q ≡ key e → ⊥) → reply_in (placed e es) q ≡ reply_in es q
  reply_beside q [] d = rw (differ_apart (key e) q (λ p. d (sym p)))
  reply_beside q (f ∷ es) d = by (is_less (cmp (key e) (key f))) (reply_beside q es d)
    where
      n : same_text (key e) q ≡ false
      n = differ_apart (key e) q (λ p. d (sym p))

      by : (b : Bool) → reply_in (placed e es) q ≡ reply_in es q → reply_in (pick b (e ∷ f ∷ es) (f ∷ placed e es)) q ≡ reply_in (f ∷ es) q
      by true r = rw n
      by false r = ap (λ (x : Reply). pick (same_text (key f) q) (told f.value) x) r

  pub reply-placed : (es : List Entry) → Apart (key e) es → reply_in (placed e es) (key e) ≡ told e.value
  reply-placed [] a = rw (same_refl (key e))
  reply-placed (f ∷ es) a = by (is_less (cmp (key e) (key f))) (reply-placed es a.1)
    where
      by : (b : Bool) → reply_in (placed e es) (key e) ≡ told e.value → reply_in (pick b (e ∷ f ∷ es) (f ∷ placed e es)) (key e) ≡ told e.value
      by true r = rw (same_refl (key e))
      by false r = rw a.0 r

  pub without-placed : (es : List Entry) → Apart (key e) es → without (key e) (placed e es) ≡ es
  without-placed [] a = rw (same_refl (key e))
  without-placed (f ∷ es) a = by (is_less (cmp (key e) (key f))) (without-placed es a.1) (apart_all es a.1)
    where
      apart_all : (fs : List Entry) → Apart (key e) fs → without (key e) fs ≡ fs
      apart_all [] b = refl
      apart_all (g ∷ fs) b = rw b.0 (ap (λ (l : List Entry). g ∷ l) (apart_all fs b.1))

      by : (b : Bool) → without (key e) (placed e es) ≡ es → without (key e) es ≡ es → without (key e) (pick b (e ∷ f ∷ es) (f ∷ placed e es)) ≡ f ∷ es
      by true r t = rw (same_refl (key e), a.0) (ap (λ (l : List Entry). f ∷ l) t)
      by false r t = rw a.0 (ap (λ (l : List Entry). f ∷ l) r)

  pub placed_long : (es : List Entry) → length (sheet_text (placed e es)) ≡ length (written e) + length (sheet_text es)
  placed_long [] = length-append (written e) []
  placed_long (f ∷ es) = by (is_less (cmp (key e) (key f))) (placed_long es)
    where
      by : (b : Bool) → length (sheet_text (placed e es)) ≡ length (written e) + length (sheet_text es)
          → length (sheet_text (pick b (e ∷ f ∷ es) (f ∷ placed e es))) ≡ length (written e) + length (written f ++ sheet_text es)
      by true r = length-append (written e) (written f ++ sheet_text es)
      by false r = omega (arith, length-append (written f) (sheet_text (placed e es)), length-append (written f) (sheet_text es), r)

pub without_long : (k : List ℕ) (es : List Entry) → length (sheet_text (without k es)) ≤ length (sheet_text es)
without_long k [] = omega arith
without_long k (f ∷ es) = by (same_text (key f) k) (without_long k es)
  where
    by : (b : Bool) → length (sheet_text (without k es)) ≤ length (sheet_text es) → length (sheet_text (pick b (without k es) (f ∷ without k es))) ≤ length (written f ++ sheet_text es)
    by true r = omega (arith, length-append (written f) (sheet_text es), r)
    by false r = omega (arith, length-append (written f) (sheet_text (without k es)), length-append (written f) (sheet_text es), r)

-- no reply means that no line has the key
pub unknown_apart : (q : List ℕ) (es : List Entry) → reply_in es q ≡ unknown → Apart q es
unknown_apart q [] e = tt
unknown_apart q (f ∷ es) e = by (same_text (key f) q) refl e (unknown_apart q es)
  where
    by : (b : Bool) → same_text (key f) q ≡ b → pick b (told f.value) (reply_in es q) ≡ unknown → (reply_in es q ≡ unknown → Apart q es) → (same_text (key f) q ≡ false) × Apart q es
    by true s r rest = let z : ◌≡◌ {A = ℕ} 0 1 = cc in absurd (omega arith)
    by false s r rest = (s, rest r)

pub apart_without : (q : List ℕ) (es : List Entry) → Apart q es → without q es ≡ es
apart_without q [] a = refl
apart_without q (f ∷ es) a = rw a.0 (ap (λ (l : List Entry). f ∷ l) (apart_without q es a.1))

-- lines that rise are settled by which lines they are
above_member : (q : List ℕ) (x : Entry) (es : List Entry) → Above q es → Memᴰ x es → cmp q (key x) ≡ Less
above_member q x [] a m = absurd (Memᴰ.not-nil m)
above_member q x (f ∷ es) a m = ⊎_elim (λ p. ap (λ (y : Entry). cmp q (key y)) p ∙ a.0) (above_member q x es a.1) (Memᴰ.cases_cons m)

not_below_self : (a b : List ℕ) → cmp a b ≡ Less → a ≡ b → ⊥
not_below_self a b h e =
    let z : Equal ≡ Less = sym (cmp_refl a) ∙ ap (cmp a) e ∙ h in
    let y : ◌≡◌ {A = ℕ} 0 1 = cc in omega arith

pub same_members : (p q : List ℕ) (es fs : List Entry) → Rises p es → Rises q fs → ((x : Entry) → Memᴰ x es → Memᴰ x fs) → ((x : Entry) → Memᴰ x fs → Memᴰ x es) → es ≡ fs
same_members p q [] [] r s f g = refl
same_members p q [] (y ∷ fs) r s f g = absurd (Memᴰ.not-nil (g y (Memᴰ.head refl)))
same_members p q (x ∷ es) [] r s f g = absurd (Memᴰ.not-nil (f x (Memᴰ.head refl)))
same_members p q (x ∷ es) (y ∷ fs) r s f g =
    let same : x ≡ y = first (Memᴰ.cases_cons (f x (Memᴰ.head refl))) (Memᴰ.cases_cons (g y (Memᴰ.head refl))) in
    let rest : es ≡ fs = same_members (key x) (key y) es fs r.2 s.2 (there same) (back same) in
    ap (λ (l : List Entry). x ∷ l) rest ∙ ap (λ (z : Entry). z ∷ fs) same
  where
    first : (x ≡ y) ⊎ Memᴰ x fs → (y ≡ x) ⊎ Memᴰ y es → x ≡ y
    first (inl e) b = e
    first (inr m) (inl e) = sym e
    first (inr m) (inr n) =
        let a = above_member (key y) x fs (rises_above (key y) fs s.2) m in
        let b = above_member (key x) y es (rises_above (key x) es r.2) n in
        absurd (not_below_self (key x) (key x) (cmp_trans (key x) (key y) (key x) b a) refl)

    there : x ≡ y → (z : Entry) → Memᴰ z es → Memᴰ z fs
    there e z m =
        ⊎_elim (λ k. absurd (not_below_self (key x) (key z) (above_member (key x) z es (rises_above (key x) es r.2) m) (ap key (e ∙ sym k)))) (λ n. n)
        (Memᴰ.cases_cons (f z (Memᴰ.tail m)))

    back : x ≡ y → (z : Entry) → Memᴰ z fs → Memᴰ z es
    back e z m =
        ⊎_elim (λ k. absurd (not_below_self (key y) (key z) (above_member (key y) z fs (rises_above (key y) fs s.2) m) (ap key (sym e ∙ sym k)))) (λ n. n)
        (Memᴰ.cases_cons (g z (Memᴰ.tail m)))

-- of lines that rise no two have one key
pub one_line : (p : List ℕ) (es : List Entry) (x y : Entry) → Rises p es → Memᴰ x es → Memᴰ y es → key x ≡ key y → x ≡ y
one_line p [] x y r m n e = absurd (Memᴰ.not-nil m)
one_line p (f ∷ es) x y r m n e = by (Memᴰ.cases_cons m) (Memᴰ.cases_cons n) (one_line (key f) es x y r.2)
  where
    above-first : (z : Entry) → Memᴰ z es → cmp (key f) (key z) ≡ Less
    above-first z k = above_member (key f) z es (rises_above (key f) es r.2) k

    by : (x ≡ f) ⊎ Memᴰ x es → (y ≡ f) ⊎ Memᴰ y es → (Memᴰ x es → Memᴰ y es → key x ≡ key y → x ≡ y) → x ≡ y
    by (inl a) (inl b) rest = a ∙ sym b
    by (inl a) (inr b) rest = absurd (not_below_self (key f) (key y) (above-first y b) (ap key (sym a) ∙ e))
    by (inr a) (inl b) rest = absurd (not_below_self (key f) (key x) (above-first x a) (ap key (sym b) ∙ sym e))
    by (inr a) (inr b) rest = rest a b e
