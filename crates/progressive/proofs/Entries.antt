-- What the entries hand back, by what is said of word and sheet. The proofs of `entry` cite it. Assumes nothing.
use Rattle.std.specs.Prelude.{Bool, Err, Ok, Result, Option, Some, None, is_some}
use mathlib.Core.Path.{◌≡◌, refl, sym, ap, subst, ◌∙◌}
use mathlib.Core.List.{List, []}
use Prim.Native.Nat.{ℕ, ◌+◌, ◌-◌, ◌≤◌}
use native.Mathlib.Omega.{arith}
use lib.ListN.{length, take, drop}
use Rattle.sheet.specs.Inputs.{inputs_of, numbers_given, lowest_numbers}
use Rattle.sheet.specs.Replies.{reply}
use Rattle.refusals.specs.declared.Refusal.{Refusal}
use Rattle.sheet.proofs.Refusals.{lowest}
use Rattle.progressive.specs.declared.find.Progressive.{Progressive}
use Rattle.progressive.specs.Found.{FormAt, part_at}
use Rattle.progressive.specs.Answers.{answer_if, answer_of, form_given, name_if, lemma_text, Lies, Analyzed, supported_if, supported_of, supported_numbers}
use Rattle.progressive.specs.Progressive.{progressive_of}
use Rattle.progressive.proofs.Forms.{form-found}

module _ (w s : List ℕ) where
  -- a refusal is given as it is
  pub refused : (r : Refusal) → inputs_of w s ≡ Err r → Analyzed w s (Err r)
  unfolding answer_of lemma_text
  refused r i = record {
    settled = ap (λ (q : Result (Unit {0}) Refusal). answer_if q w s) (sym i);
    reads = ap (λ (q : Result (Unit {0}) Refusal). name_if q w s) (sym i);
    lies = tt;
    numbers = ap numbers_given (sym i) ∙ lowest w s;
  }

  -- a form that was found is given
  pub given : (r : Option Progressive) → inputs_of w s ≡ Ok tt → FormAt s w r → Analyzed w s (Ok r)
  unfolding answer_of lemma_text
  given r i k = record {
    settled = ap Ok k.settled ∙ ap (λ (q : Result (Unit {0}) Refusal). answer_if q w s) (sym i);
    reads = k.reads ∙ ap (λ (q : Result (Unit {0}) Refusal). name_if q w s) (sym i);
    lies = k.lies;
    numbers = ap numbers_given (sym i) ∙ lowest w s;
  }

  -- the places of what was given lie in the sheet
  pub given_inside : (a : Result (Option Progressive) Refusal) (r : Progressive) → Analyzed w s a → a ≡ Ok (Some r) → r.lemma_at + r.lemma_len ≤ length s
  given_inside a r k e = (subst (Lies w s) e k.lies).0

  -- the part that the lemma's places cut out of the sheet
  pub part-given : (a : Result (Option Progressive) Refusal) (r : Progressive) → Analyzed w s a → a ≡ Ok (Some r) →
      (take (r.lemma_at + r.lemma_len - r.lemma_at) (drop r.lemma_at s) ≡ part_at s (form_given (answer_of w s)))
      × (take (r.lemma_at + r.lemma_len - r.lemma_at) (drop r.lemma_at s) ≡ lemma_text w s)
  part-given a r k e =
      let p : r.lemma_at + r.lemma_len - r.lemma_at ≡ r.lemma_len = omega arith in
      let q : take (r.lemma_at + r.lemma_len - r.lemma_at) (drop r.lemma_at s) ≡ part_at s (form_given a) =
      ap (λ (n : ℕ). take n (drop r.lemma_at s)) p ∙ ap (λ (x : Result (Option Progressive) Refusal). part_at s (form_given x)) (sym e) in
      (q ∙ ap (λ (x : Result (Option Progressive) Refusal). part_at s (form_given x)) k.settled, q ∙ k.reads)

  -- no part for none
  pub part_none : (a : Result (Option Progressive) Refusal) → Analyzed w s a → form_given a ≡ None → ([] ≡ part_at s (form_given (answer_of w s))) × ([] ≡ lemma_text w s)
  part_none a k e =
      let q = ap (part_at s) (sym e) in
      (q ∙ ap (λ (x : Result (Option Progressive) Refusal). part_at s (form_given x)) k.settled, q ∙ k.reads)

-- an answer says whether a form is found
abbrev pub support_given : Result (Option Progressive) Refusal → Result Bool Refusal
support_given (Err r) = Err r
support_given (Ok form) = Ok (is_some form)

module _ (w s : List ℕ) where
  pub support_settled : (r a : Result (Option Progressive) Refusal) → Analyzed w s r → r ≡ a → support_given a ≡ supported_of w s
  unfolding answer_of supported_of
  support_settled r a k e = ap support_given (sym e ∙ k.settled) ∙ by (inputs_of w s)
    where
      by : (i : Result (Unit {0}) Refusal) → support_given (answer_if i w s) ≡ supported_if i w s
      by (Ok _) = ap Ok (form-found s w (progressive_of (reply s) w))
      by (Err r) = refl

-- the number of a refusal is the lowest that applies
pub supported_lowest : (w s : List ℕ) → supported_numbers (supported_of w s) ≡ lowest_numbers w s
unfolding supported_of
supported_lowest w s = by (inputs_of w s) ∙ lowest w s
  where
    by : (i : Result (Unit {0}) Refusal) → supported_numbers (supported_if i w s) ≡ numbers_given i
    by (Ok _) = refl
    by (Err r) = refl
