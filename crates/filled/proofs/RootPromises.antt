-- What the entry for root candidates promises, beyond its contract: the number that is given is the lowest that applies, and 8 never with a
-- slice of 16 elements; with any number the slice is left as it was; without one, the candidates stand at its front and its old elements
-- behind them; it is as long as before. Assumes nothing.
use Rattle.std.specs.Prelude.{Err, Ok, Result}
use Rattle.refusals.specs.declared.Refusal.{Refusal}
use Prim.Native.Nat.{ℕ, ◌≤◌, ◌<◌}
use native.Mathlib.Omega.{arith}
use mathlib.Core.Path.{◌≡◌, refl, sym, ap, ◌∙◌}
use mathlib.Core.Bool.{Bool, true, false}
use mathlib.Core.Logic.{◌↔◌}
use mathlib.Core.List.{List, [], ◌∷◌, ◌++◌}
use lib.Dec.{ltb}
use lib.ListN.{length, drop, get_or}
use Rattle.refusals.specs.Refusals.{number, written_numbers, output_by, cause_if, lowest_numbers_of, or_else}
use Rattle.refusals.specs.declared.Refusal.TheVariants.{OutputTooShort}
use Rattle.refusals.proofs.Lowest.{AtLeast}
use Rattle.refusals.proofs.Outputs.{room_lowest, eight_short, short_eight, none_wrote, left_by_lem, output_length}
use Rattle.sheet.specs.Inputs.{inputs_of, numbers_given}
use Rattle.sheet.specs.Replies.{reply}
use Rattle.sheet.proofs.Refusals.{lowest_then, refused-low}
use Rattle.roots.specs.Lists.{root_limit}
use Rattle.roots.specs.Candidates.{candidates}
use Rattle.roots.specs.Answers.{roots_if, roots_for}
use Rattle.roots.specs.declared.RootCandidate.{RootCandidate}
use Rattle.roots.proofs.Bounded.{roots_few}
use Rattle.filled.specs.FilledRoots.{roots_filled_by, roots_filled, roots_output, roots_lowest}

-- the number that is given is the lowest that applies
pub lowest_number : (w s : List ℕ) (room : ℕ) → written_numbers (roots_filled w s room) ≡ roots_lowest w s room
unfolding roots_filled roots_lowest roots_for
lowest_number w s room = by (inputs_of w s) ∙ sym (lowest_then w s _ (least (ltb room (length (candidates (reply s) w)))))
  where
    by : (i : Result (Unit {0}) Refusal) → written_numbers (roots_filled_by i (length (roots_if i w s)) room)
        ≡ or_else (numbers_given i) (lowest_numbers_of (cause_if (ltb room (length (candidates (reply s) w))) OutputTooShort))
    by (Ok _) = room_lowest (length (candidates (reply s) w)) room
    by (Err r) = refl

    least : (b : Bool) → AtLeast 7 (cause_if b OutputTooShort)
    least true = (omega arith, tt)
    least false = tt

abbrev first : List ℕ → ℕ
first l = get_or l 0 0

-- 8 is given exactly where word and sheet are accepted and the slice is shorter than the list
pub eight_exactly : (w s : List ℕ) (room : ℕ) → (written_numbers (roots_filled w s room) ≡ 8 ∷ []) ↔ ((inputs_of w s ≡ Ok tt) × (room < length (roots_for w s)))
unfolding roots_filled
eight_exactly w s room = (
  (λ e. is_eight (inputs_of w s) refl e),
  (λ h.
      ap (λ (x : Result (Unit {0}) Refusal). written_numbers (roots_filled_by x (length (roots_for w s)) room)) h.0 ∙ short_eight (length (roots_for w s)) room h.1),
)
  where
    is_eight : (i : Result (Unit {0}) Refusal) → inputs_of w s ≡ i → written_numbers (roots_filled_by i (length (roots_for w s)) room) ≡ 8 ∷ [] → (i ≡ Ok tt) × (room < length (roots_for w s))
    is_eight (Ok _) p e = (refl, eight_short (length (roots_for w s)) room e)
    is_eight (Err r) p e = let z : number r ≡ 8 = ap first e in let k = refused-low w s r p in absurd (omega arith)

-- so a slice of 16 elements is always long enough
pub enough : (w s : List ℕ) (room : ℕ) → root_limit ≤ room → written_numbers (roots_filled w s room) ≡ 8 ∷ [] → ⊥
enough w s room h e =
    let short : room < length (roots_for w s) = ((eight_exactly w s room).0 e).1 in
    let n = roots_few w s in
    absurd (omega arith)

-- with any number, the slice is left as it was
pub left : (w s : List ℕ) (old : List RootCandidate) (n : ℕ) (ns : List ℕ) → written_numbers (roots_filled w s (length old)) ≡ n ∷ ns → roots_output w s old ≡ old
unfolding roots_output
left w s old n ns e = left_by_lem (roots_filled w s (length old)) (roots_for w s) old n ns e

-- without one, so many candidates as the list has are written, and the elements past them are left
pub wrote : (w s : List ℕ) (old : List RootCandidate) → written_numbers (roots_filled w s (length old)) ≡ []
    → (roots_filled w s (length old) ≡ Ok (length (roots_for w s))) × (roots_output w s old ≡ roots_for w s ++ drop (length (roots_for w s)) old)
unfolding roots_filled roots_output
wrote w s old e =
    let f : roots_filled_by (inputs_of w s) (length (roots_for w s)) (length old) ≡ Ok (length (roots_for w s)) = by (inputs_of w s) e in
    (f, ap (λ (g : Result ℕ Refusal). output_by g (roots_for w s) old) f)
  where
    by : (i : Result (Unit {0}) Refusal) → written_numbers (roots_filled_by i (length (roots_for w s)) (length old)) ≡ [] → roots_filled_by i (length (roots_for w s)) (length old) ≡ Ok (length (roots_for w s))
    by (Ok _) e = none_wrote (length (roots_for w s)) (length old) e
    by (Err r) e = let z = ap (length {A = ℕ}) e in absurd (omega arith)

-- the slice is as long as before
pub same_length : (w s : List ℕ) (old : List RootCandidate) → length (roots_output w s old) ≡ length old
unfolding roots_filled roots_output
same_length w s old = by (inputs_of w s)
  where
    by : (i : Result (Unit {0}) Refusal) → length (output_by (roots_filled_by i (length (roots_for w s)) (length old)) (roots_for w s) old) ≡ length old
    by (Ok _) = output_length (roots_for w s) old
    by (Err r) = refl
