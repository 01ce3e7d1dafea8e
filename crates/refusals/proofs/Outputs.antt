-- Laws of what an entry that is lent an output hands back and leaves, for elements of any type. Assumes nothing.
use Rattle.std.specs.Prelude.{Err, Ok, Result}
use Prim.Native.Nat.{ℕ, zero, suc, ◌+◌, ◌-◌, ◌≤◌, ◌<◌}
use native.Mathlib.Numerals.{add-one}
use native.Mathlib.Omega.{arith}
use mathlib.Core.Path.{◌≡◌, refl, sym, ap, ◌∙◌}
use mathlib.Core.Bool.{Bool, true, false}
use mathlib.Core.List.{List, [], ◌∷◌, ◌++◌, map}
use lib.ListN.{length, take, drop, get_or, set, length-append, length-drop}
use lib.Dec.{leb, ltb}
use borrow.Author.Tests.{leb-true, leb-false, le-leb, lt-leb, lt-ltb, le-ltb}
use Rattle.runs.specs.Runs.{pick}
use Rattle.refusals.specs.Refusals.{number, places, written_numbers, room_for, output_by, cause_if, lowest_numbers_of}
use Rattle.refusals.specs.declared.Refusal.{Refusal}
use Rattle.refusals.specs.declared.Refusal.TheVariants.{WordTooLong, WordNotUtf8, WordForbidden, SheetTooLong, SheetNoForm, SheetNotAbove, TooManyReadings, OutputTooShort, TextTooLong, TextNotUtf8, ListTooShort, NoSingleForm, NothingToWithdraw, NoRoom}

-- what is handed back by the room that there is
pub is_written : (size room n : ℕ) → n ≡ size → n ≤ room → Ok n ≡ room_for size room
is_written size room n e h = let z : room_for n room ≡ Ok n = rw (le-leb _ _ h) in sym z ∙ ap (λ (k : ℕ). room_for k room) e

pub is_too_short : (size room n : ℕ) → n ≡ size → room < n → Err OutputTooShort ≡ room_for size room
is_too_short size room n e h = let z : room_for n room ≡ Err OutputTooShort = rw (lt-leb _ _ h) in sym z ∙ ap (λ (k : ℕ). room_for k room) e

-- 8 is the number of an output that is shorter
pub room_lowest : (size room : ℕ) → written_numbers (room_for size room) ≡ lowest_numbers_of (cause_if (ltb room size) OutputTooShort)
room_lowest size room = by (leb size room) refl
  where
    by : (b : Bool) → leb size room ≡ b → written_numbers (room_for size room) ≡ lowest_numbers_of (cause_if (ltb room size) OutputTooShort)
    by true e = rw (e, le-ltb room size (leb-true size room e))
    by false e = rw (e, lt-ltb room size (leb-false size room e))

pub eight_short : (size room : ℕ) → written_numbers (room_for size room) ≡ 8 ∷ [] → room < size
eight_short size room = by (leb size room) refl
  where
    by : (b : Bool) → leb size room ≡ b → written_numbers (pick b (Ok size) (Err OutputTooShort)) ≡ 8 ∷ [] → room < size
    by true t e = let z : ◌≡◌ {A = ℕ} 0 1 = ap (length {A = ℕ}) e in absurd (omega arith)
    by false t e = leb-false size room t

pub short_eight : (size room : ℕ) → room < size → written_numbers (room_for size room) ≡ 8 ∷ []
short_eight size room h = rw (lt-leb size room h)

-- a refusal has a number, so no number means that all was written
pub none_wrote : (size room : ℕ) → written_numbers (room_for size room) ≡ [] → room_for size room ≡ Ok size
none_wrote size room = by (leb size room)
  where
    by : (b : Bool) → written_numbers (pick b (Ok size) (Err OutputTooShort)) ≡ [] → pick b (Ok size) (Err OutputTooShort) ≡ Ok size
    by true e = refl
    by false e = let z : ◌≡◌ {A = ℕ} 1 0 = ap (length {A = ℕ}) e in absurd (omega arith)

-- a number fits a byte
pub number_small : (r : Refusal) → (1 ≤ number r) × (number r < 256)
number_small WordTooLong = (omega arith, omega arith)
number_small WordNotUtf8 = (omega arith, omega arith)
number_small WordForbidden = (omega arith, omega arith)
number_small SheetTooLong = (omega arith, omega arith)
number_small (SheetNoForm at) = (omega arith, omega arith)
number_small (SheetNotAbove at) = (omega arith, omega arith)
number_small TooManyReadings = (omega arith, omega arith)
number_small OutputTooShort = (omega arith, omega arith)
number_small TextTooLong = (omega arith, omega arith)
number_small TextNotUtf8 = (omega arith, omega arith)
number_small ListTooShort = (omega arith, omega arith)
number_small NoSingleForm = (omega arith, omega arith)
number_small NothingToWithdraw = (omega arith, omega arith)
number_small NoRoom = (omega arith, omega arith)

-- a refusal has one place at most
abbrev pub One : List ℕ → Type 0
One [] = Unit {0}
One (at ∷ []) = Unit {0}
One (at ∷ more ∷ rest) = ⊥

pub one_place : (r : Refusal) → One (places r)
one_place WordTooLong = tt
one_place WordNotUtf8 = tt
one_place WordForbidden = tt
one_place SheetTooLong = tt
one_place (SheetNoForm at) = tt
one_place (SheetNotAbove at) = tt
one_place TooManyReadings = tt
one_place OutputTooShort = tt
one_place TextTooLong = tt
one_place TextNotUtf8 = tt
one_place ListTooShort = tt
one_place NoSingleForm = tt
one_place NothingToWithdraw = tt
one_place NoRoom = tt

module _ {A : Type 0} where
  -- with any number, the output is left as it was
  pub left_by_lem : (f : Result ℕ Refusal) (answer old : List A) (n : ℕ) (ns : List ℕ) → written_numbers f ≡ n ∷ ns → output_by f answer old ≡ old
  left_by_lem (Ok k) answer old n ns e = let z : ◌≡◌ {A = ℕ} 0 (suc (length ns)) = ap (length {A = ℕ}) e in absurd (omega arith)
  left_by_lem (Err r) answer old n ns e = refl

  -- an answer written whole over the front of an output that is no shorter leaves it as long as it was
  pub over-length : (xs ys : List A) → length xs ≤ length ys → length (xs ++ drop (length xs) ys) ≡ length ys
  over-length xs ys h =
      let z : length (drop (length xs) ys) ≡ length ys - length xs = length-drop (length xs) ys in
      length-append xs (drop (length xs) ys) ∙ omega arith

  -- and so does what is handed back by its room
  pub output_length : (answer old : List A) → length (output_by (room_for (length answer) (length old)) answer old) ≡ length old
  output_length answer old = by (leb (length answer) (length old)) refl
    where
      by : (b : Bool) → leb (length answer) (length old) ≡ b → length (output_by (pick b (Ok (length answer)) (Err OutputTooShort)) answer old) ≡ length old
      by true t = over-length answer old (leb-true (length answer) (length old) t)
      by false t = refl

-- one row stored behind those before it
pub filled_turn : {A B : Type 0} (of : A → B) (xs : List A) (old : List B) (i : ℕ) (d : A) → i < length xs → length xs ≤ length old
    → set (map of (take i xs) ++ drop i old) i (of (get_or xs i d)) ≡ map of (take (i + 1) xs) ++ drop (i + 1) old
filled_turn {A} {B} of xs old i d h k = rw (add-one i) (go xs old i h k)
  where
    go : (xs : List A) (old : List B) (i : ℕ) → i < length xs → length xs ≤ length old
        → set (map of (take i xs) ++ drop i old) i (of (get_or xs i d)) ≡ map of (take (suc i) xs) ++ drop (suc i) old
    go [] old i h k = absurd (omega arith)
    go (x ∷ xs) [] i h k = absurd (omega arith)
    go (x ∷ xs) (o ∷ old) zero h k = refl
    go (x ∷ xs) (o ∷ old) (suc i) h k = ap (λ (l : List B). of x ∷ l) (go xs old i (omega arith) (omega arith))
