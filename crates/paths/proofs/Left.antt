-- What a strip leaves, taken apart: the text ends the piece, or the form begins it, and what is left is the rest. Unique, Alike
-- and Keys cite these laws. Assumes nothing.
use Prim.Native.Nat.{ℕ}
use mathlib.Core.Path.{◌≡◌, refl, sym, ap, ◌∙◌}
use mathlib.Core.Bool.{Bool, true, false, not, ◌&&◌}
use mathlib.Core.List.{List, [], ◌∷◌, ◌++◌, map, nil≢cons, head-eq_of_cons-eq}
use lib.ListN.{length, drop}
use lib.Dec.{leb, ltb}
use Rattle.runs.specs.Runs.{pick, begins_with, ends_in}
use Rattle.runs.proofs.Begins.{and_left, and_right}
use Rattle.text.specs.Characters.{chars}
use Rattle.strips.specs.Suffix.{first_length, first_character, sheds, is_long, without, plain, shared, Marked, marked}
use Rattle.strips.specs.Prefix.{least_after, after, leaves, prefix_remainder}
use Rattle.strips.proofs.Remainders.{plain-joined, shared-joined}
use Rattle.paths.specs.Chains.{Strip, text_of, left_by}

pick-left : (b : Bool) (x left : List ℕ) → pick b (x ∷ []) [] ≡ left ∷ [] → (b ≡ true) × (left ≡ x)
pick-left true x left e = (refl, sym (head-eq_of_cons-eq e))
pick-left false x left e = absurd (nil≢cons e)

-- what a strip leaves of a piece without the text t
abbrev pub kept : Bool → List ℕ → List ℕ → List ℕ
kept b piece t = pick b (without piece t ++ first_character t) (without piece t)

pub left-says : (piece : List ℕ) (x : Strip) (left : List ℕ) → left_by piece x ≡ left ∷ []
    → (sheds piece (text_of x) ≡ true) × (left ≡ kept x.is_shared piece (text_of x))
unfolding plain shared
left-says piece x left e = go x.is_shared e
  where
    go : (b : Bool) → pick b (shared piece (text_of x)) (plain piece (text_of x)) ≡ left ∷ [] → (sheds piece (text_of x) ≡ true) × (left ≡ kept b piece (text_of x))
    go true e = let p = pick-left (sheds piece (text_of x) && is_long (text_of x)) _ left e in (and_left _ _ p.0, p.1)
    go false e = pick-left (sheds piece (text_of x)) _ left e

pub left-ends : (piece : List ℕ) (x : Strip) (left : List ℕ) → left_by piece x ≡ left ∷ [] → ends_in (text_of x) piece ≡ true
unfolding sheds
left-ends piece x left e = and_right (ltb (length (text_of x)) (length piece)) (ends_in (text_of x) piece) (left-says piece x left e).0

pub prefix_says : (piece form left : List ℕ) → prefix_remainder piece form ≡ left ∷ [] → (begins_with form piece ≡ true) × (left ≡ after piece form)
unfolding prefix_remainder leaves
prefix_says piece form left e =
    let p = pick-left (leaves piece form) (after piece form) left e in
    (and_left (begins_with form piece) (leb (least_after form) (chars (after piece form))) p.0, p.1)

-- what is left is a front part of the piece
pub left-front : (piece : List ℕ) (x : Strip) (left : List ℕ) → left_by piece x ≡ left ∷ [] → (rest : List ℕ) × (left ++ rest ≡ piece)
left-front piece x left e =
    let s = left-says piece x left e in
    let t = go x.is_shared s.0 in
    (t.0, ap (λ (l : List ℕ). l ++ t.0) s.1 ∙ t.1)
  where
    go : (b : Bool) → sheds piece (text_of x) ≡ true → (rest : List ℕ) × (kept b piece (text_of x) ++ rest ≡ piece)
    go true h = (drop (first_length (text_of x)) (text_of x), shared-joined piece (text_of x) h)
    go false h = (text_of x, plain-joined piece (text_of x) h)

-- those of marked remainders that have this mark
abbrev pub only_marked : Bool → List Marked → List Marked
only_marked b [] = []
only_marked b (x ∷ xs) = pick (pick b x.is_shared (not x.is_shared)) (x ∷ only_marked b xs) (only_marked b xs)

-- what a strip leaves is what the single strip says with the strip's mark
pub left-marked : (piece : List ℕ) (x : Strip) → map (λ (l : List ℕ). record { left = l; is_shared = x.is_shared }) (left_by piece x) ≡ only_marked x.is_shared (marked piece (text_of x))
unfolding marked plain shared
left-marked piece x = go x.is_shared (sheds piece (text_of x)) (is_long (text_of x))
  where
    go : (m a b : Bool) → map (λ (l : List ℕ). record { left = l; is_shared = m })
        (pick m (pick (a && b) ((without piece (text_of x) ++ first_character (text_of x)) ∷ []) []) (pick a (without piece (text_of x) ∷ []) []))
        ≡ only_marked m (map (λ (l : List ℕ). record { left = l; is_shared = false }) (pick a (without piece (text_of x) ∷ []) [])
        ++ map (λ (l : List ℕ). record { left = l; is_shared = true }) (pick (a && b) ((without piece (text_of x) ++ first_character (text_of x)) ∷ []) []))
    go true true true = refl
    go true true false = refl
    go true false b = refl
    go false true true = refl
    go false true false = refl
    go false false b = refl
