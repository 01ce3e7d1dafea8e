-- What an entry that writes a text gives and leaves; and the program's input, cut into word and sheet. The proofs of the entries cite
-- these. Assumes nothing.
use Rattle.std.specs.Prelude.{Result}
use Rattle.refusals.specs.declared.Refusal.{Refusal}
use Prim.Native.Nat.{ℕ, ◌+◌, ◌-◌, ◌≤◌, ◌<◌, min}
use native.Mathlib.Omega.{arith}
use native.Mathlib.Nat.{zero-add}
use mathlib.Core.Path.{◌≡◌, refl, sym, ap, subst, ◌∙◌}
use mathlib.Core.Bool.{Bool, true, false}
use mathlib.Core.List.{List}
use lib.ListN.{length, take, drop, length-drop, drop_of_length-le}
use lib.Seq.{take_all, take-length}
use lib.Dec.{ltb}
use borrow.Author.Tests.{le-leb, lt-leb, ltb-true, ltb-false}
use Rattle.runs.specs.Bytes.{slice, index_of}
use Rattle.writing.specs.Placed.{Answer}
use Rattle.writing.specs.Refused.{refused_text}
use Rattle.listing.specs.Texts.{listing_room}
use Rattle.listing.specs.Printed.{readings_text, input_limit, printed}
use Rattle.refusals.specs.Refusals.{numbers_of}
use Rattle.refusals.specs.declared.Refusal.TheVariants.{SheetTooLong}

-- the same text, said otherwise
pub answer_as : {t u old new : List ℕ} {r : Result ℕ Refusal} → t ≡ u → Answer t old new r → length t ≤ listing_room → Answer u old new r × (length u ≤ listing_room)
answer_as {old = old} {new = new} {r = r} e a l = subst (λ (x : List ℕ). Answer x old new r × (length x ≤ listing_room)) e (a, l)

-- the program's input: too long, or a word and a sheet
module _ (input : List ℕ) where
  pub printed_long : input_limit < length input → refused_text (numbers_of SheetTooLong) ≡ printed input
  unfolding printed
  printed_long h = rw (lt-leb _ _ h)

  pub word_end : (end : ℕ) → end ≡ 0 + index_of 10 (slice 0 (length input) input) → end ≡ index_of 10 input
  unfolding slice
  word_end end e = e ∙ zero-add _ ∙ ap (index_of 10) (take-length input)

  pub printed-parts : (end : ℕ) (sheet : List ℕ) → length input ≤ input_limit → end ≡ index_of 10 input → sheet ≡ drop (end + 1) input
      → readings_text (take end input) sheet ≡ printed input
  unfolding printed
  printed-parts end sheet h e q = rw (le-leb _ _ h, q, e)

  -- what stands after the word, as the code cuts it
  pub cut-from : (from : ℕ) → from ≤ length input → take (length input - from) (drop from input) ≡ drop from input
  cut-from from h = take_all (length input - from) (drop from input) (simp length-drop (omega arith))

  pub cut-least : (from : ℕ) → drop (min from (length input)) input ≡ drop from input
  cut-least from = by (ltb from (length input)) refl
    where
      by : (b : Bool) → ltb from (length input) ≡ b → drop (min from (length input)) input ≡ drop from input
      by true e = let h = ltb-true from (length input) e in let m : min from (length input) ≡ from = omega arith in ap (λ (n : ℕ). drop n input) m
      by false e =
          let h = ltb-false from (length input) e in
          let m : length input ≤ min from (length input) = omega arith in
          drop_of_length-le input m ∙ sym (drop_of_length-le input h)
