-- What is handed back and printed for a word and a sheet, by what the core call says. The proofs of `write_readings` and
-- `print_readings` cite these. Assumes nothing.
use Rattle.std.specs.Prelude.{Err, Ok, Result}
use Prim.Native.Nat.{ℕ, ◌≤◌, ◌<◌}
use native.Mathlib.Omega.{arith}
use mathlib.Core.Path.{◌≡◌, refl, sym, ap, subst, ◌∙◌}
use mathlib.Core.List.{List, [], ◌∷◌}
use lib.ListN.{length}
use Rattle.refusals.specs.Refusals.{number, places, numbers_of, output_by, Before}
use Rattle.refusals.specs.declared.Refusal.{Refusal}
use Rattle.refusals.proofs.Outputs.{One, one_place}
use Rattle.text.specs.Word.{word_limit}
use Rattle.sheet.specs.Limits.{sheet_limit}
use Rattle.sheet.specs.Inputs.{inputs_of}
use Rattle.sheet.proofs.Refusals.{accepted-each, refused-placed, refused-low}
use Rattle.ranking.specs.Lists.{Rows, rows, over}
use Rattle.ranking.specs.declared.Classified.{Classified}
use Rattle.analysis.specs.Answers.{collected, said_by, said_of, rows_given}
use Rattle.analysis.proofs.Accepted.{word-parts}
use Rattle.writing.specs.Placed.{written_of, text_over, Answer}
use Rattle.writing.specs.Refused.{refused_text}
use Rattle.listing.specs.Texts.{listing_text, listing_room}
use Rattle.listing.specs.Printed.{outcome_by, outcome_of, left_of, said_text, readings_text}
use Rattle.listing.proofs.Room.{number-line-size, place_line_size}
use Rattle.listing.proofs.Answered.{answer_as}

-- the line of what is said instead of a list is no longer than the longest list
abbrev ShortLine : Result (Unit {0}) Refusal → Type 0
ShortLine (Ok _) = Unit {0}
ShortLine (Err r) = length (refused_text (numbers_of r)) ≤ listing_room

module _ (w s : List ℕ) where
  -- the list
  pub text-listed : (rs : List Classified) → said_of w s ≡ Ok tt → rs ≡ rows_given w s → listing_text w rs ≡ readings_text w s
  unfolding readings_text
  text-listed rs e q = ap (listing_text w) q ∙ sym (ap (λ (x : Result (Unit {0}) Refusal). said_text w x (rows_given w s)) e)

  -- a refusal
  pub text-refused : (r : Refusal) (numbers : List ℕ) → said_of w s ≡ Err r → numbers ≡ numbers_of r → refused_text numbers ≡ readings_text w s
  unfolding readings_text
  text-refused r numbers e q = ap refused_text q ∙ sym (ap (λ (x : Result (Unit {0}) Refusal). said_text w x (rows_given w s)) e)

  -- only an accepted word has a list, so that it is not too long
  pub listed-short : said_of w s ≡ Ok tt → length w ≤ word_limit
  unfolding said_of
  listed-short e = (word-parts w (accepted-each w s (by (inputs_of w s) (collected w s) e)).0).0
    where
      by : (i : Result (Unit {0}) Refusal) (c : Rows) → said_by i c ≡ Ok tt → i ≡ Ok tt
      by (Ok _) c h = refl
      by (Err r) c h = cc

  -- the line of a refusal is short: its faulty line begins inside the sheet
  pub refused-short : (r : Refusal) → said_of w s ≡ Err r → length (refused_text (numbers_of r)) ≤ listing_room
  unfolding said_of
  refused-short r e = subst ShortLine e (by (inputs_of w s) refl (collected w s))
    where
      sized : (n : ℕ) (places : List ℕ) → n < 10 → One places → Before sheet_limit places → length (refused_text (n ∷ places)) ≤ listing_room
      sized n [] h o p = number-line-size n h
      sized n (at ∷ []) h o p = place_line_size n at h p.0
      sized n (at ∷ more ∷ rest) h o p = absurd o

      by : (i : Result (Unit {0}) Refusal) → inputs_of w s ≡ i → (c : Rows) → ShortLine (said_by i c)
      by (Ok _) q (rows rs) = tt
      by (Ok _) q over = number-line-size 7 (omega arith)
      by (Err x) q c = let k = refused-low w s x q in sized (number x) (places x) (omega arith) (one_place x) (refused-placed w s x q)

  -- what is handed back, by what is said
  pub gives_refused : (out : List ℕ) (r : Refusal) → said_of w s ≡ Err r
      → (Err r ≡ outcome_of w s out) × (out ≡ left_of w s out) × (length (readings_text w s) ≤ listing_room)
  unfolding outcome_of left_of
  gives_refused out r e =
      let o : Err r ≡ outcome_by (said_of w s) (written_of (listing_text w (rows_given w s)) out) = sym (ap (λ (x : Result (Unit {0}) Refusal). outcome_by x (written_of (listing_text w (rows_given w s)) out)) e) in (
        o,
        ap (λ (x : Result ℕ Refusal). output_by x (listing_text w (rows_given w s)) out) o,
        subst (λ (t : List ℕ). length t ≤ listing_room) (text-refused r (numbers_of r) e refl) (refused-short r e),
      )

  pub gives_listed : (out new : List ℕ) (rs : List Classified) (y : Result ℕ Refusal) → said_of w s ≡ Ok tt → rs ≡ rows_given w s → Answer (listing_text w rs) out new y
      → (length w ≤ word_limit → length (listing_text w rs) ≤ listing_room)
      → (y ≡ outcome_of w s out) × (new ≡ left_of w s out) × (length (readings_text w s) ≤ listing_room)
  unfolding outcome_of left_of
  gives_listed out new rs y e q a l =
      let o : written_of (listing_text w (rows_given w s)) out ≡ outcome_by (said_of w s) (written_of (listing_text w (rows_given w s)) out) =
      sym (ap (λ (x : Result (Unit {0}) Refusal). outcome_by x (written_of (listing_text w (rows_given w s)) out)) e) in (
        a.given ∙ ap (λ (x : List Classified). written_of (listing_text w x) out) q ∙ o,
        a.left
            ∙ ap (λ (x : List Classified). text_over (listing_text w x) out) q
            ∙ ap (λ (x : Result ℕ Refusal). output_by x (listing_text w (rows_given w s)) out) o,
        subst (λ (t : List ℕ). length t ≤ listing_room) (text-listed rs e q) (l (listed-short e)),
      )

  -- what is printed, by what is said
  pub prints-refused : {out new : List ℕ} {y : Result ℕ Refusal} (r : Refusal) → said_of w s ≡ Err r → Answer (refused_text (numbers_of r)) out new y
      → Answer (readings_text w s) out new y × (length (readings_text w s) ≤ listing_room)
  prints-refused r e a = answer_as (text-refused r (numbers_of r) e refl) a (refused-short r e)

  pub prints-listed : {out new : List ℕ} {y : Result ℕ Refusal} (rs : List Classified) → said_of w s ≡ Ok tt → rs ≡ rows_given w s → Answer (listing_text w rs) out new y
      → (length w ≤ word_limit → length (listing_text w rs) ≤ listing_room)
      → Answer (readings_text w s) out new y × (length (readings_text w s) ≤ listing_room)
  prints-listed rs e q a l = answer_as (text-listed rs e q) a (l (listed-short e))
