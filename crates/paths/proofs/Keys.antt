-- The source tells readings apart by one text, which joins stem, root and labels with `|` and `+`: this text never confuses two readings
-- of a word (`key_tells`), though a stem or a root may hold `|` itself. Assumes nothing.
use Prim.Native.Nat.{ℕ, suc, ◌+◌, ◌-◌, ◌≤◌, ◌<◌}
use native.Mathlib.Omega.{arith}
use mathlib.Core.Path.{◌≡◌, refl, sym, ap, ◌∙◌, subst}
use mathlib.Core.Bool.{false}
use mathlib.Core.List.{List, [], ◌∷◌, ◌++◌, map, append-nil, append_assoc, tail-eq_of_cons-eq}
use lib.ListN.{length, take, drop, get_or, length-append, get_or-append}
use lib.Seq.{append_snoc, get_or-append_seam, get_or-append-add, take_at, drop_at}
use Rattle.runs.proofs.Begins.{begins-front}
use Rattle.tables.proofs.Compared.{by_order}
use Rattle.tables.proofs.Facts.{holds, prefix_label_text, prefix_label_unjoined, prefix_form_unjoined, affix_text, affix_unjoined}
use Rattle.sheet.specs.Replies.{Ask}
use Rattle.paths.specs.Chains.{all_rows, Strip, text_of, rows_after, Suffixed, form_of, Prefixed, Route, PathOf}
use Rattle.paths.specs.Readings.{Parts, label_of, parts_of, IsReading}
use Rattle.paths.proofs.Cuts.{holds_append, holds_none, last-cut}
use Rattle.paths.proofs.Joined.{joined_by, Labels, joined_bars, joined_back, labels_turned}
use Rattle.paths.proofs.Left.{left-front, prefix_says}
use Rattle.paths.proofs.Unique.{rows_fewer}

abbrev pub bar : List ℕ
bar = 0x7C ∷ []

-- the text by which the source tells readings apart
abbrev pub key_text : Parts → List ℕ
key_text r = r.stem ++ bar ++ r.root ++ bar ++ joined_by r.prefixes ++ bar ++ joined_by r.suffixes

-- What a path says of its stem.

module _ (ask : Ask) where
  prefix-labels : (piece rows root : List ℕ) → Prefixed ask piece rows root → Labels (map label_of rows)
  prefix-labels piece [] root p = tt
  prefix-labels piece (row ∷ rows) root p =
      let h = (prefix_label_text row p.0).long in
      (record { unjoined = prefix_label_unjoined row p.0; some = omega arith }, prefix-labels p.2.0 rows root p.2.2)

  suffix_labels : (n : ℕ) → n ≤ all_rows → (piece : List ℕ) (strips : List Strip) (stem : List ℕ) → Suffixed ask n piece strips stem → Labels (map text_of strips)
  suffix_labels n l piece [] stem p = tt
  suffix_labels n l piece (x ∷ strips) stem p =
      let i = p.0 in
      let k : x.row < all_rows = omega arith in
      let h = (affix_text x.row k).long in (
        record { unjoined = affix_unjoined x.row k; some = omega arith },
        suffix_labels (rows_after x.row) (rows_fewer x.row) p.2.0 strips stem p.2.2,
      )

  -- the root with forms before it, which hold no `|`
  pub prefix_front : (piece rows root : List ℕ) → Prefixed ask piece rows root → (f : List ℕ) × (holds 0x7C f ≡ false) × (piece ≡ f ++ root)
  prefix_front piece [] root p = ([], refl, p)
  prefix_front piece (row ∷ rows) root p =
      let s = prefix_says piece (form_of row) p.2.0 p.2.1 in
      let t = prefix_front p.2.0 rows root p.2.2 in (
        form_of row ++ t.0,
        holds_append 0x7C (form_of row) t.0 (prefix_form_unjoined row p.0).no_bar t.1,
        begins-front (form_of row) piece s.0 ∙ ap (λ (l : List ℕ). form_of row ++ l) (sym s.1 ∙ t.2) ∙ sym (append_assoc (form_of row) t.0 root),
      )

  -- a stem is a front part of the word
  pub suffix_back : (n : ℕ) (piece : List ℕ) (strips : List Strip) (stem : List ℕ) → Suffixed ask n piece strips stem → (b : List ℕ) × (piece ≡ stem ++ b)
  suffix_back n piece [] stem p = ([], p ∙ sym (append-nil stem))
  suffix_back n piece (x ∷ strips) stem p =
      let l = left-front piece x p.2.0 p.2.1 in
      let t = suffix_back (rows_after x.row) p.2.0 strips stem p.2.2 in
      (t.0 ++ l.0, sym l.1 ∙ ap (λ (s : List ℕ). s ++ l.0) t.1 ∙ append_assoc stem t.0 l.0)

-- Stem and root are told apart where the forms before the root hold no `|`.

shift : (w m f r b n g s c : List ℕ) → m ≡ f ++ r → n ≡ g ++ s → w ≡ m ++ b → w ≡ n ++ c → holds 0x7C g ≡ false
    → m ++ 0x7C ∷ r ≡ n ++ 0x7C ∷ s → length m < length n → ⊥
shift w m f r b n g s c em en ew ex h e l =
    let d = length n - suc (length m) in
    let dn : length m + suc d ≡ length n = omega arith in
    let lm : length m ≡ length f + length r = ap length em ∙ length-append f r in
    let ln : length n ≡ length g + length s = ap length en ∙ length-append g s in
    let lk : length m + suc (length r) ≡ length n + suc (length s) =
    sym (length-append m (0x7C ∷ r)) ∙ ap length e ∙ length-append n (0x7C ∷ s) in
    let a : get_or r d 0 ≡ 0x7C =
    sym (get_or-append-add m (0x7C ∷ r) (suc d) 0) ∙ ap (λ (k : ℕ). get_or (m ++ 0x7C ∷ r) k 0) dn ∙ ap (λ (k : List ℕ). get_or k (length n) 0) e
    ∙ get_or-append_seam n 0x7C s 0 in
    let u : get_or w (length f + d) 0 ≡ get_or r d 0 =
    ap (λ (k : List ℕ). get_or k (length f + d) 0) ew ∙ get_or-append m b 0 (length f + d) (omega arith)
    ∙ ap (λ (k : List ℕ). get_or k (length f + d) 0) em ∙ get_or-append-add f r d 0 in
    let v : get_or w (length f + d) 0 ≡ get_or g (length f + d) 0 =
    ap (λ (k : List ℕ). get_or k (length f + d) 0) ex ∙ get_or-append n c 0 (length f + d) (omega arith)
    ∙ ap (λ (k : List ℕ). get_or k (length f + d) 0) en ∙ get_or-append g s 0 (length f + d) (omega arith) in
    holds_none 0x7C g (length f + d) h (omega arith) (sym v ∙ u ∙ a)

same_stem : (w m f r b n g s c : List ℕ) → m ≡ f ++ r → n ≡ g ++ s → w ≡ m ++ b → w ≡ n ++ c → holds 0x7C f ≡ false → holds 0x7C g ≡ false
    → m ++ 0x7C ∷ r ≡ n ++ 0x7C ∷ s → (m ≡ n) × (r ≡ s)
same_stem w m f r b n g s c em en ew ex hf hg e =
    by_order (length m) (length n) (λ l. absurd (shift w m f r b n g s c em en ew ex hg e l))
    (λ k. by_order (length n) (length m) (λ l. absurd (shift w n g s c m f r b en em ex ew hf (sym e) l))
    (λ l.
    let z : length n ≡ length m = omega arith in (
      sym (take_at m (0x7C ∷ r) (length m) refl) ∙ ap (take (length m)) e ∙ take_at n (0x7C ∷ s) (length m) z,
      tail-eq_of_cons-eq (sym (drop_at m (0x7C ∷ r) (length m) refl) ∙ ap (drop (length m)) e ∙ drop_at n (0x7C ∷ s) (length m) z),
    )))

key-cut : (x y s t : List ℕ) → holds 0x7C s ≡ false → holds 0x7C t ≡ false → x ++ bar ++ s ≡ y ++ bar ++ t → (x ≡ y) × (s ≡ t)
key-cut x y s t p q e = last-cut 0x7C x y s t p q (sym (append_snoc x 0x7C s) ∙ e ∙ append_snoc y 0x7C t)

-- what is used of a path
record Told (w : List ℕ) (r : Parts) : Type 0 where
  prefix_told : Labels r.prefixes
  suffix_told : Labels r.suffixes
  front : (f : List ℕ) × (holds 0x7C f ≡ false) × (r.stem ≡ f ++ r.root)
  back : (b : List ℕ) × (w ≡ r.stem ++ b)

path_told : (ask : Ask) (w : List ℕ) (p : Route) → PathOf ask w p → Told w (parts_of p)
path_told ask w p a = record {
  prefix_told = prefix-labels ask p.stem p.prefix_rows p.root a.prefixed;
  suffix_told = labels_turned (map text_of p.strips) [] (suffix_labels ask all_rows (omega arith) w p.strips p.stem a.suffixed) tt;
  front = prefix_front ask p.stem p.prefix_rows p.root a.prefixed;
  back = suffix_back ask all_rows w p.strips p.stem a.suffixed;
}

parts-told : (w : List ℕ) (r t : Parts) → Told w r → Told w t → key_text r ≡ key_text t → r ≡ t
parts-told w r t a b e =
    let c = key-cut (r.stem ++ bar ++ r.root ++ bar ++ joined_by r.prefixes) (t.stem ++ bar ++ t.root ++ bar ++ joined_by t.prefixes)
    (joined_by r.suffixes) (joined_by t.suffixes) (joined_bars r.suffixes a.suffix_told) (joined_bars t.suffixes b.suffix_told) e in
    let d = key-cut (r.stem ++ bar ++ r.root) (t.stem ++ bar ++ t.root) (joined_by r.prefixes) (joined_by t.prefixes)
    (joined_bars r.prefixes a.prefix_told) (joined_bars t.prefixes b.prefix_told) c.0 in
    let s = same_stem w r.stem a.front.0 r.root a.back.0 t.stem b.front.0 t.root b.back.0
    a.front.2 b.front.2 a.back.1 b.back.1 a.front.1 b.front.1
    (sym (append_snoc r.stem 0x7C r.root) ∙ d.0 ∙ append_snoc t.stem 0x7C t.root) in
    let x : r.prefixes ≡ t.prefixes = joined_back r.prefixes t.prefixes a.prefix_told b.prefix_told d.1 in
    let y : r.suffixes ≡ t.suffixes = joined_back r.suffixes t.suffixes a.suffix_told b.suffix_told c.1 in
    λ i. record { stem = s.0 i; root = s.1 i; prefixes = x i; suffixes = y i }

-- two readings of a word with the same key are the same reading
pub key_tells : (ask : Ask) (w : List ℕ) (r t : Parts) → IsReading ask w r → IsReading ask w t → key_text r ≡ key_text t → r ≡ t
key_tells ask w r t a b e = parts-told w r t (reading_told a) (reading_told b) e
  where
    reading_told : {s : Parts} → IsReading ask w s → Told w s
    reading_told a = subst (Told w) a.2 (path_told ask w a.0 a.1)
