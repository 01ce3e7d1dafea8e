-- What a remainder is: a front part of the piece that the suffix makes whole again, and UTF-8 where piece and suffix are; and the
-- same of what a prefix form leaves. Cited by every crate that strips. Assumes nothing.
use Rattle.std.specs.Prelude.{None, Some, IfSome}
use mathlib.Core.Path.{◌≡◌, refl, ap, ap₂, sym, ◌∙◌}
use mathlib.Core.Bool.{Bool, true, false, ◌&&◌}
use mathlib.Core.Logic.{⊎_elim}
use mathlib.Core.List.Memᴰ
use mathlib.Core.List.{List, [], ◌∷◌, ◌++◌, map, map-append, append_assoc, Memᴰ}
use Prim.Native.Nat.{ℕ, ◌≤◌, ◌<◌}
use native.Mathlib.Omega.{arith}
use lib.ListN.{length, take, drop, take-append-drop}
use lib.Seq.{take-add}
use lib.Dec.{leb, ltb}
use borrow.Author.Tests.{ltb-true, leb-true}
use Rattle.runs.specs.Runs.{pick, begins_with, ends_in}
use Rattle.runs.proofs.Begins.{and_left, and_right, begins-front}
use Rattle.runs.proofs.Ends.{ends_split}
use Rattle.tables.proofs.Compared.{ends_is}
use Rattle.text.specs.Utf8.{is_utf8}
use Rattle.text.specs.Characters.{chars}
use Rattle.strips.specs.declared.suffix.Rests.{Rests}
use Rattle.strips.specs.Suffix.{first_length, first_character, sheds, is_long, without, plain, shared, remainders, plain_length, shared_length, rests_of, fronts, Marked, marked, marked_fronts}
use Rattle.strips.specs.Prefix.{least_after, after, leaves, prefix_remainder, rest_of, behind}
use Rattle.strips.proofs.Returns.{begins-length}
use Rattle.strips.proofs.Parts.{utf8_front, utf8_back, utf8_join}
use Rattle.strips.proofs.First.{first_utf8, first_less}

-- Under a suffix.

pub sheds_longer : (piece suffix : List ℕ) → sheds piece suffix ≡ true → length suffix < length piece
unfolding sheds
sheds_longer piece suffix e = ltb-true (length suffix) (length piece) (and_left (ltb (length suffix) (length piece)) (ends_in suffix piece) e)

sheds-ends : (piece suffix : List ℕ) → sheds piece suffix ≡ true → ends_in suffix piece ≡ true
unfolding sheds
sheds-ends piece suffix e = and_right (ltb (length suffix) (length piece)) (ends_in suffix piece) e

-- the plain remainder and the suffix make the piece
pub plain-joined : (piece suffix : List ℕ) → sheds piece suffix ≡ true → without piece suffix ++ suffix ≡ piece
plain-joined piece suffix e = sym (ends_split suffix piece (sheds-ends piece suffix e))

-- the shared remainder and what follows the suffix's first character make the piece: the shared letter is written once
pub shared-joined : (piece suffix : List ℕ) → sheds piece suffix ≡ true
    → (without piece suffix ++ first_character suffix) ++ drop (first_length suffix) suffix ≡ piece
shared-joined piece suffix e =
    append_assoc (without piece suffix) (first_character suffix) (drop (first_length suffix) suffix)
    ∙ ap (λ (t : List ℕ). without piece suffix ++ t) (take-append-drop (first_length suffix) suffix)
    ∙ plain-joined piece suffix e

-- the shared remainder is a front part too
pub shared-front : (piece suffix : List ℕ) → sheds piece suffix ≡ true
    → without piece suffix ++ first_character suffix ≡ take (shared_length piece suffix) piece
shared-front piece suffix e =
    let n = plain_length piece suffix in
    let d : drop n piece ≡ suffix = ends_is suffix piece (sheds-ends piece suffix e) in
    sym (take-add n (first_length suffix) piece ∙ ap (λ (t : List ℕ). take n piece ++ take (first_length suffix) t) d)

-- both are shorter than the piece, and neither is empty
pub plain_less : (piece suffix : List ℕ) → sheds piece suffix ≡ true → 0 < length suffix → plain_length piece suffix < length piece
plain_less piece suffix e h = let l = sheds_longer piece suffix e in omega arith

pub plain-some : (piece suffix : List ℕ) → sheds piece suffix ≡ true → 0 < plain_length piece suffix
plain-some piece suffix e = let l = sheds_longer piece suffix e in omega arith

pub shared_less : (piece suffix : List ℕ) → sheds piece suffix ≡ true → is_long suffix ≡ true → shared_length piece suffix < length piece
unfolding is_long
shared_less piece suffix e h =
    let l = sheds_longer piece suffix e in
    let k = first_less suffix (ltb-true 1 (chars suffix) h) in
    omega arith

-- a shared remainder exists exactly where a plain one does, for a suffix of more than one character; for others never
pub shared_where_plain : (piece suffix : List ℕ) → is_long suffix ≡ true → length (shared piece suffix) ≡ length (plain piece suffix)
unfolding plain shared
shared_where_plain piece suffix h = rw h (go (sheds piece suffix))
  where
    go : (b : Bool) → length (pick (b && true) ((without piece suffix ++ first_character suffix) ∷ []) []) ≡ length (pick b (without piece suffix ∷ []) [])
    go true = refl
    go false = refl

pub shared_nowhere : (piece suffix : List ℕ) → is_long suffix ≡ false → shared piece suffix ≡ []
unfolding shared
shared_nowhere piece suffix h = rw h (go (sheds piece suffix))
  where
    go : (b : Bool) → pick (b && false) ((without piece suffix ++ first_character suffix) ∷ []) [] ≡ []
    go true = refl
    go false = refl

-- what the code gives, by the two tests
abbrev rests : List ℕ → List ℕ → Bool → Bool → Rests
rests piece suffix a b = record { plain = pick a (Some (plain_length piece suffix)) None; shared = pick (a && b) (Some (shared_length piece suffix)) None }

-- the lengths that the code gives say the remainders
pub rests_say : (piece suffix : List ℕ) → fronts piece (rests_of piece suffix) ≡ remainders piece suffix
unfolding rests_of remainders plain shared
rests_say piece suffix = go (sheds piece suffix) (is_long suffix) refl
  where
    go : (a b : Bool) → sheds piece suffix ≡ a
        → fronts piece (rests piece suffix a b)
        ≡ pick a (without piece suffix ∷ []) [] ++ pick (a && b) ((without piece suffix ++ first_character suffix) ∷ []) []
    go true true e = ap (λ (t : List ℕ). without piece suffix ∷ t ∷ []) (sym (shared-front piece suffix e))
    go true false e = refl
    go false b e = refl

-- and the marked ones
pub rests_marked : (piece suffix : List ℕ) → marked_fronts piece (rests_of piece suffix) ≡ marked piece suffix
unfolding rests_of marked plain shared
rests_marked piece suffix = go (sheds piece suffix) (is_long suffix) refl
  where
    go : (a b : Bool) → sheds piece suffix ≡ a
        → marked_fronts piece (rests piece suffix a b)
        ≡ map (λ (l : List ℕ). record { left = l; is_shared = false }) (pick a (without piece suffix ∷ []) [])
        ++ map (λ (l : List ℕ). record { left = l; is_shared = true }) (pick (a && b) ((without piece suffix ++ first_character suffix) ∷ []) [])
    go true true e =
        ap (λ (t : List ℕ). record { left = without piece suffix; is_shared = false } ∷ record { left = t; is_shared = true } ∷ []) (sym (shared-front piece suffix e))
    go true false e = refl
    go false b e = refl

unmark : (b : Bool) (ls : List (List ℕ)) → map (λ (x : Marked). x.left) (map (λ (l : List ℕ). record { left = l; is_shared = b }) ls) ≡ ls
unmark b [] = refl
unmark b (l ∷ ls) = ap (λ (t : List (List ℕ)). l ∷ t) (unmark b ls)

-- without their marks they are the remainders
pub marks_off : (piece suffix : List ℕ) → map (λ (x : Marked). x.left) (marked piece suffix) ≡ remainders piece suffix
unfolding marked remainders
marks_off piece suffix =
    map-append (λ (x : Marked). x.left) (map (λ (l : List ℕ). record { left = l; is_shared = false }) (plain piece suffix))
    (map (λ (l : List ℕ). record { left = l; is_shared = true }) (shared piece suffix))
    ∙ ap₂ (λ (a b : List (List ℕ)). a ++ b) (unmark false (plain piece suffix)) (unmark true (shared piece suffix))

-- they lie inside the piece, so that it can be cut by them
pub record Inside (piece : List ℕ) (r : Rests) : Type 0 where
  pub plain_in : IfSome r.plain (λ n. n ≤ length piece)
  pub shared_in : IfSome r.shared (λ n. n ≤ length piece)

pub rests_inside : (piece suffix : List ℕ) → Inside piece (rests_of piece suffix)
unfolding rests_of
rests_inside piece suffix = go (sheds piece suffix) (is_long suffix) refl refl
  where
    go : (a b : Bool) → sheds piece suffix ≡ a → is_long suffix ≡ b → Inside piece (rests piece suffix a b)
    go true true e h =
        let l = shared_less piece suffix e h in
        record { plain_in = omega arith; shared_in = omega arith }
    go true false e h = record { plain_in = omega arith; shared_in = tt }
    go false b e h = record { plain_in = tt; shared_in = tt }

-- where there is no plain one, there is no shared one
pub shared_with_plain : (piece suffix : List ℕ) → (rests_of piece suffix).plain ≡ None → (rests_of piece suffix).shared ≡ None
unfolding rests_of
shared_with_plain piece suffix = go (sheds piece suffix) (is_long suffix)
  where
    go : (a b : Bool) → (rests piece suffix a b).plain ≡ None → (rests piece suffix a b).shared ≡ None
    go true b e = let z : ◌≡◌ {A = ℕ} 0 1 = cc in absurd (omega arith)
    go false b e = refl

-- UTF-8 pieces and suffixes leave UTF-8
pub plain_utf8 : (piece suffix : List ℕ) → sheds piece suffix ≡ true → is_utf8 piece ≡ true → is_utf8 suffix ≡ true
    → is_utf8 (without piece suffix) ≡ true
plain_utf8 piece suffix e p s = utf8_front (without piece suffix) suffix (rw (plain-joined piece suffix e) p) s

pub shared_utf8 : (piece suffix : List ℕ) → sheds piece suffix ≡ true → is_utf8 piece ≡ true → is_utf8 suffix ≡ true
    → is_utf8 (without piece suffix ++ first_character suffix) ≡ true
shared_utf8 piece suffix e p s =
    utf8_join (without piece suffix) (first_character suffix) (plain_utf8 piece suffix e p s) (first_utf8 suffix s)

pub remainder_utf8 : (piece suffix r : List ℕ) → is_utf8 piece ≡ true → is_utf8 suffix ≡ true → Memᴰ r (remainders piece suffix)
    → is_utf8 r ≡ true
unfolding remainders plain shared
remainder_utf8 piece suffix r p s m = go (sheds piece suffix) (is_long suffix) refl m
  where
    go : (a b : Bool) → sheds piece suffix ≡ a
        → Memᴰ r (pick a (without piece suffix ∷ []) [] ++ pick (a && b) ((without piece suffix ++ first_character suffix) ∷ []) [])
        → is_utf8 r ≡ true
    go true true e m =
        ⊎_elim (λ q. ap is_utf8 q ∙ plain_utf8 piece suffix e p s)
        (λ n. ap is_utf8 (Memᴰ.eq_of_singleton n) ∙ shared_utf8 piece suffix e p s) (Memᴰ.cases_cons m)
    go true false e m = ap is_utf8 (Memᴰ.eq_of_singleton m) ∙ plain_utf8 piece suffix e p s
    go false b e m = absurd (Memᴰ.not-nil m)

-- Under a prefix form.

leaves-begins : (piece form : List ℕ) → leaves piece form ≡ true → begins_with form piece ≡ true
unfolding leaves
leaves-begins piece form e = and_left (begins_with form piece) (leb (least_after form) (chars (after piece form))) e

-- the form and what it leaves make the piece
pub prefix_joined : (piece form : List ℕ) → leaves piece form ≡ true → form ++ after piece form ≡ piece
prefix_joined piece form e = sym (begins-front form piece (leaves-begins piece form e))

-- what is left has enough characters
pub prefix_enough : (piece form : List ℕ) → leaves piece form ≡ true → least_after form ≤ chars (after piece form)
unfolding leaves
prefix_enough piece form e =
    leb-true (least_after form) (chars (after piece form)) (and_right (begins_with form piece) (leb (least_after form) (chars (after piece form))) e)

pub prefix_utf8 : (piece form : List ℕ) → leaves piece form ≡ true → is_utf8 piece ≡ true → is_utf8 form ≡ true → is_utf8 (after piece form) ≡ true
prefix_utf8 piece form e p f = utf8_back form (after piece form) f (rw (prefix_joined piece form e) p)

-- the byte that the code gives says what is left
pub rest-says : (piece form : List ℕ) → behind piece (rest_of piece form) ≡ prefix_remainder piece form
unfolding rest_of prefix_remainder
rest-says piece form = go (leaves piece form)
  where
    go : (b : Bool) → behind piece (pick b (Some (length form)) None) ≡ pick b (after piece form ∷ []) []
    go true = refl
    go false = refl

pub rest-inside : (piece form : List ℕ) (n : ℕ) → rest_of piece form ≡ Some n → n ≤ length piece
unfolding rest_of
rest-inside piece form n e = go (leaves piece form) refl e
  where
    go : (b : Bool) → leaves piece form ≡ b → pick b (Some (length form)) None ≡ Some n → n ≤ length piece
    go true l q =
        let h = begins-length form piece (leaves-begins piece form l) in
        let z : length form ≡ n = cc in
        omega arith
    go false l q = let z : ◌≡◌ {A = ℕ} 0 1 = cc in absurd (omega arith)
