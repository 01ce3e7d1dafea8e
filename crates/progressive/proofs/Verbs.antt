-- What a part of the sheet that holds a lemma says of the lemma, and how the search goes from name to name.
-- The proofs of `verb_at`, `regular_lemma`, `linked_verb`, `supported_infinitive` and `find_progressive` cite it. Assumes nothing.
use Rattle.std.specs.Prelude.{Option, Some, None, is_some}
use mathlib.Core.Path.{◌≡◌, refl, sym, ap, ◌∙◌}
use mathlib.Core.Bool.{Bool, true, false, ◌||◌}
use mathlib.Core.List.{List, [], ◌++◌, append-nil}
use Prim.Native.Nat.{ℕ, ◌+◌, ◌-◌}
use native.Mathlib.Omega.{arith}
use lib.ListN.{length, take, drop}
use lib.Dec.{eqb}
use Rattle.runs.specs.Runs.{pick, ends_in}
use Rattle.sheet.specs.Forms.{syllable_nu}
use Rattle.sheet.specs.Replies.{Reply, reply, letters_told}
use Rattle.lookup.specs.declared.answers.Spot.{Spot}
use Rattle.lookup.specs.Answers.{text_at, named, NameOf}
use Rattle.progressive.specs.Progressive.{virama, sign_aa, letter_aa, letter_u, is_verb, Lemma, none, lemma, verb_or, regular, verb_told, decided, lemma_of}
use Rattle.progressive.specs.Found.{LemmaAt}

module _ (s : List ℕ) where
  pub none_found : (r : Option Spot) (l : Lemma) → LemmaAt s l r → is_some r ≡ false → l ≡ none
  none_found None none k f = refl
  none_found None (lemma name) k f =
      let e : Reply.unknown ≡ Reply.told name = k.reads in
      let z : ◌≡◌ {A = ℕ} 0 1 = cc in absurd (omega arith)
  none_found (Some v) l k f = let z : ◌≡◌ {A = ℕ} 0 1 = cc in absurd (omega arith)

  pub some-found : (v : Spot) (l : Lemma) → LemmaAt s l (Some v) → l ≡ lemma (take v.len (drop v.at s))
  some-found v none k =
      let e : Reply.told (take v.len (drop v.at s)) ≡ Reply.unknown = k.reads in
      let z : ◌≡◌ {A = ℕ} 0 1 = cc in absurd (omega arith)
  some-found v (lemma name) k =
      let e : Reply.told (take v.len (drop v.at s)) ≡ Reply.told name = k.reads in
      let n : name ≡ take v.len (drop v.at s) = cc in
      ap lemma n

  none-unfound : (r : Option Spot) → LemmaAt s none r → is_some r ≡ true → ⊥
  none-unfound None k f = let z : ◌≡◌ {A = ℕ} 0 1 = cc in omega arith
  none-unfound (Some v) k f = let e = some-found v none k in let z : ◌≡◌ {A = ℕ} 0 1 = cc in omega arith

module _ (s : List ℕ) (r : Option Spot) where
  -- a verb that is found is the first; where it is none, the search goes on
  pub verb-first : (name : List ℕ) (rest : Lemma) → LemmaAt s (verb_or (reply s) name none) r → is_some r ≡ true →
      LemmaAt s (verb_or (reply s) name rest) r
  verb-first name rest k f = go (is_verb (reply s) name) k
    where
      go : (b : Bool) → LemmaAt s (pick b (lemma name) none) r → LemmaAt s (pick b (lemma name) rest) r
      go true k = k
      go false k = absurd (none-unfound s r k f)

  pub verb_next : (name : List ℕ) (rest : Lemma) → LemmaAt s (verb_or (reply s) name none) r → is_some r ≡ false →
      verb_or (reply s) name rest ≡ rest
  verb_next name rest k f = go (is_verb (reply s) name) k
    where
      go : (b : Bool) → LemmaAt s (pick b (lemma name) none) r → pick b (lemma name) rest ≡ rest
      go true k = let e = none_found s r (lemma name) k f in let z : ◌≡◌ {A = ℕ} 0 1 = cc in absurd (omega arith)
      go false k = refl

  -- a verb has a line, which holds its name
  pub verb-named : (name : List ℕ) → is_verb (reply s) name ≡ true → NameOf s 0x77 name r → LemmaAt s (verb_or (reply s) name none) r
  verb-named name e k = rw e (record { settled = k.settled; reads = go (reply s 0x77 name) e k.reads; inside = k.inside })
    where
      go : (a : Reply) → (letters_told a).verb ≡ true → text_at s r ≡ named name a → text_at s r ≡ Reply.told name
      go Reply.unknown t h = let z : ◌≡◌ {A = ℕ} 0 1 = cc in absurd (omega arith)
      go (Reply.told v) t h = h

module _ (s : List ℕ) where
  pub no-lemma : (l : Lemma) → l ≡ none → LemmaAt s l None
  no-lemma l e = rw e (record { settled = refl; reads = refl; inside = tt })

  pub not-verb : (name : List ℕ) → is_verb (reply s) name ≡ false → LemmaAt s (verb_or (reply s) name none) None
  not-verb name e = no-lemma _ (ap (λ (b : Bool). pick b (lemma name) none) e)

  -- the verb that a link line names
  pub told-verb : (r : Option Spot) (v : Spot) → r ≡ Some v →
      verb_or (reply s) (take (v.at + v.len - v.at) (drop v.at s) ++ []) none ≡ verb_told (reply s) (text_at s r)
  told-verb r v e =
      let p : v.at + v.len - v.at ≡ v.len = omega arith in
      ap (λ (n : List ℕ). verb_or (reply s) n none) (append-nil _ ∙ ap (λ (n : ℕ). take n (drop v.at s)) p)
      ∙ ap (λ r. verb_told (reply s) (text_at s r)) (sym e)

module _ (s linked stem : List ℕ) where
  -- what is left of the search after stem+नु, after stem+्नु and after stem+उनु
  abbrev pub last : Lemma
  last = verb_or (reply s) (linked ++ syllable_nu) none

  abbrev pub after_closed : Lemma
  after_closed =
      pick (ends_in sign_aa stem || ends_in letter_aa stem) (verb_or (reply s) (stem ++ (letter_u ++ syllable_nu)) last) last

  abbrev pub after_open : Lemma
  after_open = verb_or (reply s) (stem ++ (virama ++ syllable_nu)) after_closed

  module _ (r : Option Spot) (k : LemmaAt s (verb_or (reply s) (stem ++ syllable_nu) none) r) where
    pub open_found : is_some r ≡ true → LemmaAt s (regular (reply s) linked stem) r
    unfolding regular
    open_found f = verb-first s r _ after_open k f

    pub open_next : is_some r ≡ false → regular (reply s) linked stem ≡ after_open
    unfolding regular
    open_next f = verb_next s r _ after_open k f

  module _ (r : Option Spot) (k : LemmaAt s (verb_or (reply s) (stem ++ (virama ++ syllable_nu)) none) r) where
    pub closed_found : is_some r ≡ true → LemmaAt s after_open r
    closed_found f = verb-first s r _ after_closed k f

    pub closed_next : is_some r ≡ false → after_open ≡ after_closed
    closed_next f = verb_next s r _ after_closed k f

  pub without_vowel : (ends_in sign_aa stem || ends_in letter_aa stem) ≡ false → after_closed ≡ last
  without_vowel e =
      ap (λ (b : Bool). pick b (verb_or (reply s) (stem ++ (letter_u ++ syllable_nu)) last) last) e

  pub with_vowel : (ends_in sign_aa stem || ends_in letter_aa stem) ≡ true → after_closed ≡ verb_or (reply s) (stem ++ (letter_u ++ syllable_nu)) last
  with_vowel e =
      ap (λ (b : Bool). pick b (verb_or (reply s) (stem ++ (letter_u ++ syllable_nu)) last) last) e

  -- a stem that is empty or ends in ् has none; else a link line decides alone, where there is one
  pub empty_stem : eqb (length stem) 0 ≡ true → lemma_of (reply s) linked stem ≡ none
  unfolding lemma_of
  empty_stem h = ap (λ (b : Bool). pick (b || ends_in virama stem) none (decided (reply s) linked stem (reply s 0x6C linked))) h

  module _ (h : eqb (length stem) 0 ≡ false) where
    pub bare-stem : ends_in virama stem ≡ true → lemma_of (reply s) linked stem ≡ none
    unfolding lemma_of
    bare-stem e =
        ap (λ (b : Bool). pick (b || ends_in virama stem) none (decided (reply s) linked stem (reply s 0x6C linked))) h
        ∙ ap (λ (b : Bool). pick b none (decided (reply s) linked stem (reply s 0x6C linked))) e

    whole-stem : ends_in virama stem ≡ false → lemma_of (reply s) linked stem ≡ decided (reply s) linked stem (reply s 0x6C linked)
    unfolding lemma_of
    whole-stem e =
        ap (λ (b : Bool). pick (b || ends_in virama stem) none (decided (reply s) linked stem (reply s 0x6C linked))) h
        ∙ ap (λ (b : Bool). pick b none (decided (reply s) linked stem (reply s 0x6C linked))) e

    pub by_reply : (a : Reply) → a ≡ reply s 0x6C linked → ends_in virama stem ≡ false →
        lemma_of (reply s) linked stem ≡ decided (reply s) linked stem a
    by_reply a q e = whole-stem e ∙ ap (decided (reply s) linked stem) (sym q)
