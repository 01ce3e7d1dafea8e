-- Labels joined with `+`, as the source joins them: what is joined holds no `|`, and says its labels (`joined_back`). Keys cites
-- these laws. Assumes nothing.
use Prim.Native.Nat.{ℕ, suc, ◌+◌, ◌<◌}
use native.Mathlib.Omega.{arith}
use mathlib.Core.Path.{◌≡◌, refl, sym, ap, ◌∙◌}
use mathlib.Core.Bool.{false}
use mathlib.Core.List.{List, [], ◌∷◌, ◌++◌, reverse_aux, append_assoc}
use lib.ListN.{length, length-append}
use Rattle.tables.proofs.Facts.{holds, Unjoined}
use Rattle.paths.proofs.Cuts.{holds_append, first-cut}

-- labels joined with `+`
abbrev pub joined_by : List (List ℕ) → List ℕ
joined_by [] = []
joined_by (t ∷ []) = t
joined_by (t ∷ u ∷ ts) = t ++ (0x2B ∷ joined_by (u ∷ ts))

-- Labels: none is empty, and none holds `|` or `+`.

pub record Label (t : List ℕ) : Type 0 where
  pub unjoined : Unjoined t
  pub some : 0 < length t

abbrev pub Labels : List (List ℕ) → Type 0
Labels [] = Unit {0}
Labels (t ∷ ts) = Label t × Labels ts

pub joined_bars : (ts : List (List ℕ)) → Labels ts → holds 0x7C (joined_by ts) ≡ false
joined_bars [] l = refl
joined_bars (t ∷ []) l = l.0.unjoined.no_bar
joined_bars (t ∷ u ∷ ts) l = holds_append 0x7C t _ l.0.unjoined.no_bar (joined_bars (u ∷ ts) l.1)

joined-some : (t : List ℕ) (ts : List (List ℕ)) → Label t → 0 < length (joined_by (t ∷ ts))
joined-some t [] l = l.some
joined-some t (u ∷ ts) l =
    let e = length-append t (0x2B ∷ joined_by (u ∷ ts)) in
    let h = l.some in
    omega arith

-- each label with a `+` behind it
abbrev ended : List (List ℕ) → List ℕ
ended [] = []
ended (t ∷ ts) = t ++ (0x2B ∷ ended ts)

joined_ended : (t : List ℕ) (ts : List (List ℕ)) → joined_by (t ∷ ts) ++ (0x2B ∷ []) ≡ ended (t ∷ ts)
joined_ended t [] = refl
joined_ended t (u ∷ ts) =
    append_assoc t (0x2B ∷ joined_by (u ∷ ts)) (0x2B ∷ []) ∙ ap (λ (l : List ℕ). t ++ (0x2B ∷ l)) (joined_ended u ts)

ended_back : (ss ts : List (List ℕ)) → Labels ss → Labels ts → ended ss ≡ ended ts → ss ≡ ts
ended_back [] [] p q e = refl
ended_back [] (t ∷ ts) p q e = let n : 0 ≡ length t + suc (length (ended ts)) = ap length e ∙ length-append t (0x2B ∷ ended ts) in absurd (omega arith)
ended_back (s ∷ ss) [] p q e = let n : 0 ≡ length s + suc (length (ended ss)) = ap length (sym e) ∙ length-append s (0x2B ∷ ended ss) in absurd (omega arith)
ended_back (s ∷ ss) (t ∷ ts) p q e =
    let c = first-cut 0x2B s t (ended ss) (ended ts) p.0.unjoined.no_plus q.0.unjoined.no_plus e in
    let r = ended_back ss ts p.1 q.1 c.1 in
    λ i. c.0 i ∷ r i

pub joined_back : (ss ts : List (List ℕ)) → Labels ss → Labels ts → joined_by ss ≡ joined_by ts → ss ≡ ts
joined_back [] [] p q e = refl
joined_back [] (t ∷ ts) p q e =
    let h = joined-some t ts q.0 in
    let n : 0 ≡ length (joined_by (t ∷ ts)) = ap length e in
    absurd (omega arith)
joined_back (s ∷ ss) [] p q e =
    let h = joined-some s ss p.0 in
    let n : length (joined_by (s ∷ ss)) ≡ 0 = ap length e in
    absurd (omega arith)
joined_back (s ∷ ss) (t ∷ ts) p q e =
    ended_back (s ∷ ss) (t ∷ ts) p q (sym (joined_ended s ss) ∙ ap (λ (l : List ℕ). l ++ (0x2B ∷ [])) e ∙ joined_ended t ts)

pub labels_turned : (xs ys : List (List ℕ)) → Labels xs → Labels ys → Labels (reverse_aux xs ys)
labels_turned [] ys p q = q
labels_turned (x ∷ xs) ys p q = labels_turned xs (x ∷ ys) p.1 (p.0, q)
