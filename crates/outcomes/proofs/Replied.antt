-- Two accepted sheets that reply alike to the word's own questions give the same origin, decomposition, root candidates and progressive
-- form, as they give the same readings (analysis/proofs/Promises.same-answer). An accepted sheet has no line with an empty name, so what
-- is asked of the empty word is settled too. Assumes nothing.
use Rattle.refusals.specs.declared.Refusal.{Refusal}
use Rattle.std.specs.Prelude.{Ok, Result, Option, Some, None}
use Prim.Native.Nat.{ℕ, ◌<◌}
use native.Mathlib.Omega.{arith}
use mathlib.Core.Path.{◌≡◌, refl, sym, ap, ◌∙◌}
use mathlib.Core.Bool.{Bool, true, false, not, ◌&&◌}
use mathlib.Core.List.{List, [], ◌∷◌, map}
use lib.ListN.{length, drop}
use lib.Dec.{eqb, leb, ltb}
use borrow.Author.Tests.{ltb-true}
use Rattle.runs.specs.Runs.{same_text}
use Rattle.runs.proofs.Begins.{and_left}
use Rattle.text.specs.Utf8.{is_utf8}
use Rattle.text.specs.Names.{holds_forbidden}
use Rattle.text.specs.Word.{word_check}
use Rattle.sheet.specs.Limits.{name_limit}
use Rattle.sheet.specs.Forms.{is_name, key, key_of}
use Rattle.sheet.specs.Lines.{starts_of, line_at, sheet_check}
use Rattle.sheet.specs.Inputs.{inputs_of}
use Rattle.sheet.specs.Replies.{unknown, reply_in, reply, Alike}
use Rattle.sheet.proofs.Forms.{form-named}
use Rattle.sheet.proofs.Accepted.{GoesUp, accepted_up}
use Rattle.sheet.proofs.Refusals.{accepted-both}
use Rattle.origin.specs.Answers.{decision_if, decision_answer, origin_only}
use Rattle.origin.specs.declared.OriginDecision.{OriginDecision}
use Rattle.decomposition.specs.Answers.{morpheme_if, morpheme_answer}
use Rattle.decomposition.specs.declared.Morpheme.{Morpheme}
use Rattle.roots.specs.Answers.{roots_if, roots_for, best_in, best_answer, known_if, known_answer}
use Rattle.progressive.specs.Progressive.{Outcome, no, yes, progressive_of, is_yes}
use Rattle.progressive.specs.Found.{form_of, lemma_name}
use Rattle.progressive.specs.Answers.{answer_if, answer_of, form_given, name_if, lemma_text, supported_if, supported_of}
use Rattle.progressive.specs.declared.find.Progressive.{Progressive}
use Rattle.paths.specs.Questions.{Part, Own, alone}
use Rattle.paths.proofs.Own.{whole_part}
use Rattle.paths.proofs.Agreed.{outcome_same}
use Rattle.analysis.proofs.Accepted.{word-parts}
use Rattle.outcomes.proofs.Asked.{decision_same, morpheme_same, candidates_same}

-- No line has an empty name.

some-name : (n : List ℕ) → is_name n ≡ true → 0 < length n
unfolding is_name
some-name n e =
    ltb-true 0 (length n)
    (and_left (ltb 0 (length n)) (leb (length n) name_limit)
    (and_left (ltb 0 (length n) && leb (length n) name_limit) (is_utf8 n)
    (and_left (ltb 0 (length n) && leb (length n) name_limit && is_utf8 n) (not (holds_forbidden n)) e)))

other_key : (a b : ℕ) (n : List ℕ) → 0 < length n → same_text (key_of a n) (key_of b []) ≡ false
other_key a b [] h = absurd (omega arith)
other_key a b (x ∷ n) h = by (eqb a b)
  where
    by : (c : Bool) → (c && false) ≡ false
    by true = refl
    by false = refl

none_empty : (s last places : List ℕ) (letter : ℕ) → GoesUp s last places → reply_in (map (line_at s) places) (key_of letter []) ≡ unknown
none_empty s last [] letter g = refl
none_empty s last (at ∷ places) letter g =
    let l = line_at s at in
    rw (other_key l.letter letter l.name (some-name l.name (form-named (drop at s) g.0))) (none_empty s (key l) places letter g.2)

-- an accepted sheet has no line for the empty name
pub empty_unknown : (s : List ℕ) (letter : ℕ) → sheet_check s ≡ Ok tt → reply s letter [] ≡ unknown
unfolding reply
empty_unknown s letter ah = none_empty s [] (starts_of s) letter (accepted_up s ah)

-- what a form says of the word: that there is one, where its main form ends, and its sign
pub record InWord : Type 0 where
  pub ends : ℕ
  pub negative : Bool

abbrev pub in_word : Option Progressive → Option InWord
in_word None = None
in_word (Some p) = Some (record { ends = p.main_end; negative = p.negative })

module _ (s t w : List ℕ) (aw : word_check w ≡ Ok tt) (ah : sheet_check s ≡ Ok tt) (bh : sheet_check t ≡ Ok tt)
    (alike : (letter : ℕ) (name : List ℕ) → Own (reply s) w letter name → Alike s t letter name) where
  replied : (letter : ℕ) (name : List ℕ) → Own (reply s) w letter name → reply s letter name ≡ reply t letter name
  unfolding Alike
  replied letter name o = alike letter name o

  part_replied : (p : List ℕ) → Part w p → reply s 0x77 p ≡ reply t 0x77 p
  part_replied [] q = empty_unknown s 0x77 ah ∙ sym (empty_unknown t 0x77 bh)
  part_replied (x ∷ p) q = replied 0x77 (x ∷ p) (alone (x ∷ p) (record { part = q; some = omega arith }))

  utf8 : is_utf8 w ≡ true
  utf8 = (word-parts w aw).1

  -- origin, source and confidence, and the origin alone
  pub same_decision : decision_answer w s ≡ decision_answer w t
  unfolding decision_answer
  same_decision =
      ap (λ (i : Result (Unit {0}) Refusal). decision_if i w s) (accepted-both w s aw ah)
      ∙ ap (λ (d : OriginDecision). Ok d) (decision_same (reply s) (reply t) w utf8 part_replied w (whole_part w utf8))
      ∙ sym (ap (λ (i : Result (Unit {0}) Refusal). decision_if i w t) (accepted-both w t aw bh))

  pub same_origin : origin_only (decision_answer w s) ≡ origin_only (decision_answer w t)
  same_origin = ap origin_only same_decision

  -- decomposition: its parts by their places, and the word's origin
  pub same_morpheme : morpheme_answer w s ≡ morpheme_answer w t
  unfolding morpheme_answer
  same_morpheme =
      ap (λ (i : Result (Unit {0}) Refusal). morpheme_if i w s) (accepted-both w s aw ah)
      ∙ ap (λ (m : Morpheme). Ok m) (morpheme_same (reply s) (reply t) w utf8 part_replied)
      ∙ sym (ap (λ (i : Result (Unit {0}) Refusal). morpheme_if i w t) (accepted-both w t aw bh))

  -- every candidate with its score and origin; so the best root too, and whether there is one
  pub same_roots : roots_for w s ≡ roots_for w t
  unfolding roots_for
  same_roots =
      ap (λ (i : Result (Unit {0}) Refusal). roots_if i w s) (accepted-both w s aw ah)
      ∙ candidates_same (reply s) (reply t) w utf8 part_replied
      ∙ sym (ap (λ (i : Result (Unit {0}) Refusal). roots_if i w t) (accepted-both w t aw bh))

  same_inputs : inputs_of w s ≡ inputs_of w t
  same_inputs = accepted-both w s aw ah ∙ sym (accepted-both w t aw bh)

  pub same_best : best_answer w s ≡ best_answer w t
  unfolding best_answer
  same_best = ap (λ (i : Result (Unit {0}) Refusal). best_in i (roots_for w s)) same_inputs ∙ ap (best_in (inputs_of w t)) same_roots

  pub same_known : known_answer w s ≡ known_answer w t
  unfolding known_answer
  same_known = ap (λ (i : Result (Unit {0}) Refusal). known_if i (roots_for w s)) same_inputs ∙ ap (known_if (inputs_of w t)) same_roots

  -- the progressive form, as the definition of the search has it: whether there is one, its lemma, and whether it is negative
  pub same_outcome : progressive_of (reply s) w ≡ progressive_of (reply t) w
  same_outcome = outcome_same (reply s) (reply t) w replied w (whole_part w utf8)

  pub same_supported : supported_of w s ≡ supported_of w t
  unfolding supported_of
  same_supported =
      ap (λ (i : Result (Unit {0}) Refusal). supported_if i w s) (accepted-both w s aw ah)
      ∙ ap (λ (o : Outcome). Ok (is_yes o)) same_outcome
      ∙ sym (ap (λ (i : Result (Unit {0}) Refusal). supported_if i w t) (accepted-both w t aw bh))

  -- the form as it is given: whether there is one, where its main form ends, whether it is negative; where the lemma stands is the
  -- sheet's affair
  pub same_form : in_word (form_given (answer_of w s)) ≡ in_word (form_given (answer_of w t))
  unfolding answer_of
  same_form =
      ap (λ (i : Result (Unit {0}) Refusal). in_word (form_given (answer_if i w s))) (accepted-both w s aw ah)
      ∙ by (progressive_of (reply s) w)
      ∙ ap (λ (o : Outcome). in_word (form_of t w o)) same_outcome
      ∙ sym (ap (λ (i : Result (Unit {0}) Refusal). in_word (form_given (answer_if i w t))) (accepted-both w t aw bh))
    where
      by : (o : Outcome) → in_word (form_of s w o) ≡ in_word (form_of t w o)
      by no = refl
      by (yes name n) = refl

  -- the lemma, by its bytes
  pub same_lemma : lemma_text w s ≡ lemma_text w t
  unfolding lemma_text
  same_lemma =
      ap (λ (i : Result (Unit {0}) Refusal). name_if i w s) (accepted-both w s aw ah)
      ∙ ap lemma_name same_outcome
      ∙ sym (ap (λ (i : Result (Unit {0}) Refusal). name_if i w t) (accepted-both w t aw bh))
