-- The origin of a listed root asks the word's own questions alone: a root is a run of the word's whole characters, and so is each of its
-- remainders under a suffix. Promises cites it for sheets that reply alike. Assumes nothing.
use Prim.Native.Nat.{ℕ, suc, ◌≤◌, ◌<◌}
use native.Mathlib.Omega.{arith}
use mathlib.Core.Path.{◌≡◌, refl, sym, ap, ◌∙◌, subst}
use mathlib.Core.Bool.{Bool, true, false, ◌&&◌}
use mathlib.Core.Logic.{⊎_elim}
use mathlib.Core.List.Memᴰ
use mathlib.Core.List.{List, [], ◌∷◌, ◌++◌, Memᴰ}
use lib.ListN.{length, drop, get_or, length-append, length-take, take-append-drop}
use Rattle.runs.specs.Runs.{pick}
use Rattle.text.specs.Utf8.{is_utf8}
use Rattle.tables.specs.Rows.{strip_suffixes}
use Rattle.tables.proofs.Facts.{strip_suffix_text, strip_suffix_count}
use Rattle.strips.specs.Suffix.{first_length, first_character, sheds, is_long, without, plain, shared, remainders}
use Rattle.strips.proofs.Parts.{utf8_back}
use Rattle.strips.proofs.First.{first_utf8}
use Rattle.strips.proofs.Remainders.{plain-joined, shared-joined, plain-some}
use Rattle.sheet.specs.Replies.{Ask}
use Rattle.origin.specs.Decisions.{decision_of}
use Rattle.origin.proofs.Alike.{decision_alike}
use Rattle.paths.specs.Chains.{all_rows, Strip, rows_after, Suffixed, Prefixed, Route, PathOf}
use Rattle.paths.specs.Questions.{Part, Run, Own, alone}
use Rattle.paths.proofs.Unique.{rows_fewer}
use Rattle.paths.proofs.Own.{whole_part, front-part}
use Rattle.paths.proofs.Agreed.{supported-run}
use Rattle.paths.proofs.Alike.{left-part, prefix_part}

-- what holds of every row of a table holds of what stands in it
of_member : (P : List ℕ → Type 0) (xs : List (List ℕ)) {x : List ℕ} → ((k : ℕ) → k < length xs → P (get_or xs k [])) → Memᴰ x xs → P x
of_member P [] h m = absurd (Memᴰ.not-nil m)
of_member P (y ∷ xs) h (Memᴰ.head e) = subst P (sym e) (h 0 (omega arith))
of_member P (y ∷ xs) h (Memᴰ.tail m) = of_member P xs (λ k l. h (suc k) (omega arith)) m

module _ (w : List ℕ) where
  -- Every piece on the way to a root is a part of the word.

  stem-part : (ask : Ask) (rows : ℕ) (piece : List ℕ) (strips : List Strip) (stem : List ℕ) → rows ≤ all_rows → Part w piece
      → Suffixed ask rows piece strips stem → Part w stem
  stem-part ask rows piece [] stem h t e = subst (Part w) e t
  stem-part ask rows piece (x ∷ strips) stem h t e =
      stem-part ask (rows_after x.row) e.2.0 strips stem (rows_fewer x.row) (left-part w piece x e.2.0 (let l = e.0 in omega arith) t e.2.1) e.2.2

  prefixed-part : (ask : Ask) (piece rows root : List ℕ) → Part w piece → Prefixed ask piece rows root → Part w root
  prefixed-part ask piece [] root t e = subst (Part w) e t
  prefixed-part ask piece (row ∷ rows) root t e = prefixed-part ask e.2.0 rows root (prefix_part w piece row e.2.0 e.0 t e.2.1) e.2.2

  pub root-part : (ask : Ask) (p : Route) → is_utf8 w ≡ true → PathOf ask w p → Part w p.root
  root-part ask p u a =
      prefixed-part ask p.stem p.prefix_rows p.root
      (stem-part ask all_rows w p.strips p.stem (omega arith) (whole_part w u) a.suffixed) a.prefixed

  -- The remainders of a part are runs.

  module _ (root suffix : List ℕ) (t : Part w root) (u : is_utf8 suffix ≡ true) where
    some : (e : sheds root suffix ≡ true) → 0 < length (without root suffix)
    some e = let l = plain-some root suffix e in simp length-take (omega arith)

    plain-run : sheds root suffix ≡ true → Run w (without root suffix)
    plain-run e = record { part = front-part w root (without root suffix) suffix (plain-joined root suffix e) u t; some = some e }

    shared-run : sheds root suffix ≡ true → Run w (without root suffix ++ first_character suffix)
    shared-run e = record {
      part = front-part w root _ (drop (first_length suffix) suffix) (shared-joined root suffix e)
          (utf8_back (first_character suffix) _ (first_utf8 suffix u) (ap is_utf8 (take-append-drop (first_length suffix) suffix) ∙ u)) t;
      some = let l = some e in let n = length-append (without root suffix) (first_character suffix) in omega arith;
    }

    pub remainder_run : (r : List ℕ) → Memᴰ r (remainders root suffix) → Run w r
    unfolding remainders plain shared
    remainder_run r m = go (sheds root suffix) (is_long suffix) refl m
      where
        go : (a b : Bool) → sheds root suffix ≡ a
            → Memᴰ r (pick a (without root suffix ∷ []) [] ++ pick (a && b) ((without root suffix ++ first_character suffix) ∷ []) []) → Run w r
        go true true e n =
            ⊎_elim (λ q. subst (Run w) (sym q) (plain-run e)) (λ k. subst (Run w) (sym (Memᴰ.eq_of_singleton k)) (shared-run e)) (Memᴰ.cases_cons n)
        go true false e n = subst (Run w) (sym (Memᴰ.eq_of_singleton n)) (plain-run e)
        go false b e n = absurd (Memᴰ.not-nil n)

  -- so what answers the word's own questions alike decides alike of every root
  pub decision_same : (ask ask' : Ask) → is_utf8 w ≡ true
      → ((letter : ℕ) (name : List ℕ) → Own ask w letter name → ask letter name ≡ ask' letter name)
      → (p : Route) → PathOf ask w p → decision_of ask p.root ≡ decision_of ask' p.root
  decision_same ask ask' u agree p a =
      let t = root-part ask p u a in
      let q = supported-run ask ask' w agree p.root t a.supported in
      decision_alike ask ask' p.root (agree 0x77 p.root (alone p.root q))
      (λ suffix r m n.
      let v : is_utf8 suffix ≡ true = of_member (λ (x : List ℕ). is_utf8 x ≡ true) strip_suffixes (λ k h. (strip_suffix_text k (subst (λ (c : ℕ). k < c) strip_suffix_count h)).utf8) m in
      agree 0x77 r (alone r (remainder_run p.root suffix t v r n)))
