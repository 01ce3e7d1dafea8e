-- Two sheets that answer a word's own questions alike know, support and count progressive the same parts of the word. Alike cites it
-- for the walk. Assumes nothing.
use Prim.Native.Nat.{ℕ, suc, ◌+◌, ◌<◌}
use native.Mathlib.Omega.{arith}
use mathlib.Core.Path.{◌≡◌, refl, sym, ap, ap₂, ◌∙◌, subst}
use mathlib.Core.Bool.{Bool, true, false, not, ◌&&◌, ◌||◌}
use mathlib.Core.List.{List, [], ◌∷◌, ◌++◌, append_assoc}
use lib.ListN.{length, drop, get_or, length-append}
use lib.Dec.{eqb}
use Rattle.runs.specs.Runs.{pick, begins_with, ends_in}
use Rattle.runs.proofs.Begins.{begins-front}
use Rattle.tables.specs.Tables.{affixes}
use Rattle.tables.proofs.Facts.{affix_count}
use Rattle.sheet.specs.Forms.{syllable_nu}
use Rattle.sheet.specs.Replies.{Reply, unknown, told, Ask, letters_told}
use Rattle.progressive.specs.Progressive.{rahanu, virama, sign_aa, letter_aa, letter_na, is_verb, Lemma, none, lemma, verb_or, regular, decided, lemma_of, Outcome, no, negative, first, searched, linked_of, stem_of, is_shaped, progressive_of, is_yes, is_progressive}
use Rattle.paths.specs.Support.{is_known, known_with, has_sibling, is_supported}
use Rattle.paths.proofs.Shape.{na_utf8, ending, signed}
use Rattle.paths.specs.Questions.{Part, Run, Own, alone, with_text, with_nu, with_virama, with_u, of_rahanu, link, infinitive}
use Rattle.paths.proofs.Own.{front-part, back-part}

positive : (s : List ℕ) → eqb (length s) 0 ≡ false → 0 < length s
positive [] e = let z : ◌≡◌ {A = ℕ} 0 1 = cc in absurd (omega arith)
positive (x ∷ s) e = omega arith

module _ (ask ask' : Ask) (w : List ℕ) (agree : (letter : ℕ) (name : List ℕ) → Own ask w letter name → ask letter name ≡ ask' letter name) where
  known_same : (name : List ℕ) → Own ask w 0x77 name → is_known ask name ≡ is_known ask' name
  known_same name o = ap (λ (r : Reply). (letters_told r).word || (letters_told r).head) (agree 0x77 name o)

  verb_same : (name : List ℕ) → Own ask w 0x77 name → is_verb ask name ≡ is_verb ask' name
  verb_same name o = ap (λ (r : Reply). (letters_told r).verb) (agree 0x77 name o)

  with_same : (name : List ℕ) (ts : List (List ℕ)) → ((k : ℕ) → k < length ts → is_known ask (name ++ get_or ts k []) ≡ is_known ask' (name ++ get_or ts k []))
      → known_with ask name ts ≡ known_with ask' name ts
  unfolding known_with
  with_same name [] h = refl
  with_same name (t ∷ ts) h = ap₂ (λ (a b : Bool). a || b) (h 0 (omega arith)) (with_same name ts (λ k l. h (suc k) (omega arith)))

  pub sibling_same : (p : List ℕ) → Run w p → has_sibling ask p ≡ has_sibling ask' p
  sibling_same p r = with_same p affixes (λ k h. known_same _ (with_text p r k (subst (λ (n : ℕ). k < n) affix_count h)))

  -- Progressive forms.

  verb-or : (name : List ℕ) → Own ask w 0x77 name → (a b : Lemma) → a ≡ b → verb_or ask name a ≡ verb_or ask' name b
  verb-or name o a b e = ap₂ (λ (c : Bool) (l : Lemma). pick c (lemma name) l) (verb_same name o) e

  regular_same : (linked stem : List ℕ) → Run w linked → Run w stem → regular ask linked stem ≡ regular ask' linked stem
  unfolding regular
  regular_same linked stem l s =
      let last : verb_or ask (linked ++ syllable_nu) none ≡ verb_or ask' (linked ++ syllable_nu) none = verb-or _ (with_nu linked l) none none refl in
      verb-or _ (with_nu stem s) _ _ (verb-or _ (with_virama stem s) _ _
      (ap₂ (pick (ends_in sign_aa stem || ends_in letter_aa stem)) (verb-or _ (with_u stem s) _ _ last) last))

  decided_same : (linked stem : List ℕ) → Run w linked → Run w stem
      → decided ask linked stem (ask 0x6C linked) ≡ decided ask' linked stem (ask' 0x6C linked)
  decided_same linked stem l s = go (ask 0x6C linked) refl ∙ ap (decided ask' linked stem) (agree 0x6C linked (link linked l))
    where
      go : (r : Reply) → ask 0x6C linked ≡ r → decided ask linked stem r ≡ decided ask' linked stem r
      go unknown e = regular_same linked stem l s
      go (told v) e = verb-or v (infinitive linked v l e) none none refl

  lemma_same : (linked stem : List ℕ) → Run w linked → Part w stem → lemma_of ask linked stem ≡ lemma_of ask' linked stem
  unfolding lemma_of
  lemma_same linked stem l s = go (eqb (length stem) 0) refl
    where
      go : (b : Bool) → eqb (length stem) 0 ≡ b → pick (b || ends_in virama stem) none (decided ask linked stem (ask 0x6C linked))
          ≡ pick (b || ends_in virama stem) none (decided ask' linked stem (ask' 0x6C linked))
      go true e = refl
      go false e = ap (pick (ends_in virama stem) none) (decided_same linked stem l (record { part = s; some = positive stem e }))

  searched_same : (linked stem sign : List ℕ) → stem ++ sign ≡ linked → length sign ≡ 3 → Run w linked → Part w stem
      → searched ask linked stem ≡ searched ask' linked stem
  searched_same linked stem sign e n l s = ap₂ first (lemma_same linked stem l s) (go (begins_with letter_na stem) refl)
    where
      go : (b : Bool) → begins_with letter_na stem ≡ b → pick b (negative (lemma_of ask (drop 3 linked) (drop 3 stem))) no
          ≡ pick b (negative (lemma_of ask' (drop 3 linked) (drop 3 stem))) no
      go true b =
          let f : stem ≡ letter_na ++ drop 3 stem = begins-front letter_na stem b in
          let q = drop 3 stem ++ sign in
          let g : letter_na ++ q ≡ linked = sym (append_assoc letter_na (drop 3 stem) sign) ∙ ap (λ (t : List ℕ). t ++ sign) (sym f) ∙ e in
          let h : length q ≡ length (drop 3 stem) + length sign = length-append (drop 3 stem) sign in
          let r : Run w q = record { part = back-part w linked letter_na q g na_utf8 l.part; some = omega arith } in
          ap negative (lemma_same (drop 3 linked) (drop 3 stem) (subst (Run w) (ap (drop 3) g) r)
          (back-part w stem letter_na (drop 3 stem) (sym f) na_utf8 s))
      go false b = refl

  -- the lemma and the sign of a part too, where it is a progressive form
  pub outcome_same : (p : List ℕ) → Part w p → progressive_of ask p ≡ progressive_of ask' p
  unfolding progressive_of
  outcome_same p t = go (is_shaped p) refl
    where
      go : (b : Bool) → is_shaped p ≡ b → pick (b && is_verb ask rahanu) (searched ask (linked_of p) (stem_of p)) no
          ≡ pick (b && is_verb ask' rahanu) (searched ask' (linked_of p) (stem_of p)) no
      go true h =
          let e = ending p h in
          let s = signed p h in
          let l = front-part w p (linked_of p) e.0 e.3 e.1 t in
          let m : length (linked_of p) ≡ length (stem_of p) + length s.0 = ap length (sym s.3) ∙ length-append (stem_of p) s.0 in
          let n = s.2 in
          ap₂ (λ (c : Bool) (o : Outcome). pick c o no) (verb_same rahanu of_rahanu)
          (searched_same (linked_of p) (stem_of p) s.0 s.3 s.2 (record { part = l; some = omega arith })
          (front-part w (linked_of p) (stem_of p) s.0 s.3 s.1 l))
      go false h = refl

  pub progressive_same : (p : List ℕ) → Part w p → is_progressive ask p ≡ is_progressive ask' p
  progressive_same p t = ap is_yes (outcome_same p t)

  -- Support.

  pub supported_same : (p : List ℕ) → Part w p → is_supported ask p ≡ is_supported ask' p
  unfolding is_supported
  supported_same p t = go (eqb (length p) 0) refl
    where
      go : (b : Bool) → eqb (length p) 0 ≡ b → (not b && (is_known ask p || has_sibling ask p || is_progressive ask p))
          ≡ (not b && (is_known ask' p || has_sibling ask' p || is_progressive ask' p))
      go true e = refl
      go false e =
          let r : Run w p = record { part = t; some = positive p e } in
          ap₂ (λ (a b : Bool). a || b) (ap₂ (λ (a b : Bool). a || b) (known_same p (alone p r)) (sibling_same p r)) (progressive_same p t)

  -- a part that is supported is a run
  pub supported-run : (p : List ℕ) → Part w p → is_supported ask p ≡ true → Run w p
  unfolding is_supported
  supported-run p t h = go (eqb (length p) 0) refl h
    where
      go : (b : Bool) → eqb (length p) 0 ≡ b → (not b && (is_known ask p || has_sibling ask p || is_progressive ask p)) ≡ true → Run w p
      go true e h = let z : ◌≡◌ {A = ℕ} 0 1 = cc in absurd (omega arith)
      go false e h = record { part = t; some = positive p e }
