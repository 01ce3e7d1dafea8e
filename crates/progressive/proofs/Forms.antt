-- What the found lemmas say of the progressive form of a word. The proof of `find_progressive` cites it. Assumes nothing.
use Rattle.std.specs.Prelude.{Option, Some, None, is_some, unwrap_or}
use mathlib.Core.Path.{◌≡◌, refl, sym, ap, ◌∙◌}
use mathlib.Core.Bool.{Bool, true, false, ◌&&◌}
use mathlib.Core.List.{List}
use Prim.Native.Nat.{ℕ, ◌-◌}
use native.Mathlib.Omega.{arith}
use lib.ListN.{length, take, drop}
use Rattle.runs.specs.Runs.{pick, begins_with}
use Rattle.sheet.specs.Replies.{reply}
use Rattle.lookup.specs.declared.answers.Spot.{Spot}
use Rattle.progressive.specs.declared.find.Progressive.{Progressive}
use Rattle.progressive.specs.Progressive.{rahanu, letter_na, is_verb, Lemma, lemma, lemma_of, Outcome, no, yes, first, negative, linked_of, stem_of, is_shaped, progressive_of, searched, is_yes, is_progressive}
use Rattle.progressive.specs.Found.{LemmaAt, form_with, form_of, lemma_name, FormAt}
use Rattle.progressive.proofs.Verbs.{none_found, some-found}

module _ (s w : List ℕ) where
  -- what is left once the first search found nothing
  abbrev pub again : Outcome
  again = pick (begins_with letter_na (stem_of w)) (negative (lemma_of (reply s) (drop 3 (linked_of w)) (drop 3 (stem_of w)))) no

  pub not_shaped : is_shaped w ≡ false → progressive_of (reply s) w ≡ no
  unfolding progressive_of
  not_shaped e = ap (λ (b : Bool). pick (b && is_verb (reply s) rahanu) (searched (reply s) (linked_of w) (stem_of w)) no) e

  pub no_auxiliary : is_shaped w ≡ true → is_verb (reply s) rahanu ≡ false → progressive_of (reply s) w ≡ no
  unfolding progressive_of
  no_auxiliary e f =
      ap (λ (b : Bool). pick (b && is_verb (reply s) rahanu) (searched (reply s) (linked_of w) (stem_of w)) no) e
      ∙ ap (λ (b : Bool). pick b (searched (reply s) (linked_of w) (stem_of w)) no) f

  pub is_searched : is_shaped w ≡ true → is_verb (reply s) rahanu ≡ true → progressive_of (reply s) w ≡ searched (reply s) (linked_of w) (stem_of w)
  unfolding progressive_of
  is_searched e f =
      ap (λ (b : Bool). pick (b && is_verb (reply s) rahanu) (searched (reply s) (linked_of w) (stem_of w)) no) e
      ∙ ap (λ (b : Bool). pick b (searched (reply s) (linked_of w) (stem_of w)) no) f

  pub none-form : progressive_of (reply s) w ≡ no → FormAt s w None
  none-form e = record { settled = ap (form_of s w) (sym e); reads = ap lemma_name (sym e); lies = tt }

  -- the form whose lemma was found at r
  some-form : (name : List ℕ) (n : Bool) (r : Spot) → progressive_of (reply s) w ≡ yes name n → LemmaAt s (lemma name) (Some r) →
      (x : Progressive) → x ≡ form_with (length w - 15) n r → FormAt s w (Some x)
  some-form name n r e k x g =
      let q = some-found s r (lemma name) k in
      let p : take r.len (drop r.at s) ≡ name = cc in
      rw g (record {
        settled = ap (λ x. Some (form_with (length w - 15) n (unwrap_or x (record { at = 0; len = 0 })))) k.settled ∙ ap (form_of s w) (sym e);
        reads = p ∙ ap lemma_name (sym e);
        lies = (k.inside, omega arith);
      })

  module _ (o : progressive_of (reply s) w ≡ searched (reply s) (linked_of w) (stem_of w)) where
    pub first_found : (r : Spot) → LemmaAt s (lemma_of (reply s) (linked_of w) (stem_of w)) (Some r) →
        (x : Progressive) → x ≡ form_with (length w - 15) false r → FormAt s w (Some x)
    first_found r k =
        let q = some-found s r _ k in
        let t = take r.len (drop r.at s) in
        some-form t false r (o ∙ ap (λ (l : Lemma). first l again) q) (rw q at k)

    pub goes_again : LemmaAt s (lemma_of (reply s) (linked_of w) (stem_of w)) None → progressive_of (reply s) w ≡ again
    goes_again k = o ∙ ap (λ (l : Lemma). first l again) (none_found s None _ k refl)

  pub no_na : progressive_of (reply s) w ≡ again → begins_with letter_na (stem_of w) ≡ false → progressive_of (reply s) w ≡ no
  no_na o e = o ∙ ap (λ (b : Bool). pick b (negative (lemma_of (reply s) (drop 3 (linked_of w)) (drop 3 (stem_of w)))) no) e

  module _ (o : progressive_of (reply s) w ≡ again) (e : begins_with letter_na (stem_of w) ≡ true) where
    after_na : progressive_of (reply s) w ≡ negative (lemma_of (reply s) (drop 3 (linked_of w)) (drop 3 (stem_of w)))
    after_na = o ∙ ap (λ (b : Bool). pick b (negative (lemma_of (reply s) (drop 3 (linked_of w)) (drop 3 (stem_of w)))) no) e

    pub second_none : LemmaAt s (lemma_of (reply s) (drop 3 (linked_of w)) (drop 3 (stem_of w))) None → progressive_of (reply s) w ≡ no
    second_none k = after_na ∙ ap negative (none_found s None _ k refl)

    pub second_found : (r : Spot) → LemmaAt s (lemma_of (reply s) (drop 3 (linked_of w)) (drop 3 (stem_of w))) (Some r) →
        (x : Progressive) → x ≡ form_with (length w - 15) true r → FormAt s w (Some x)
    second_found r k =
        let q = some-found s r _ k in
        let t = take r.len (drop r.at s) in
        some-form t true r (after_na ∙ ap negative q) (rw q at k)

  -- a form is found where there is one
  pub form-found : (o : Outcome) → is_some (form_of s w o) ≡ is_yes o
  form-found no = refl
  form-found (yes name n) = refl

  pub found-form : (r : Option Progressive) → FormAt s w r → is_some r ≡ is_progressive (reply s) w
  found-form r k = ap is_some k.settled ∙ form-found (progressive_of (reply s) w)
