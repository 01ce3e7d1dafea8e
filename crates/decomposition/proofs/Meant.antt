-- The place of a root says the text that is meant: every remainder is a front part of the piece, so that its length is enough.
-- Assumes nothing.
use Rattle.std.specs.Prelude.{Option, Some, None, IfSome}
use mathlib.Core.Path.{◌≡◌, refl, sym, ap, subst, ◌∙◌}
use mathlib.Core.Bool.{Bool, true, false}
use mathlib.Core.List.{List, [], ◌∷◌, ◌++◌}
use Prim.Native.Nat.{ℕ, suc, ◌+◌, ◌-◌, ◌≤◌}
use native.Mathlib.Omega.{arith}
use lib.ListN.{length, take, drop, length-drop}
use lib.Seq.{length-take-le, take-take, take_all}
use lib.Dec.{leb}
use borrow.Author.Tests.{le-leb}
use Rattle.runs.specs.Runs.{pick}
use Rattle.tables.specs.Rows.{prefix_forms, suffixes}
use Rattle.sheet.specs.Replies.{Ask}
use Rattle.strips.specs.Suffix.{front, fronts}
use Rattle.strips.specs.declared.suffix.Rests.{Rests}
use Rattle.strips.proofs.Remainders.{Inside}
use Rattle.ranking.specs.Parts.{part}
use Rattle.decomposition.specs.declared.fronts.Front.{Front}
use Rattle.decomposition.specs.Strips.{left_of, open_rests, is_taken, first_taken, Stage, taken, strip_row, strip_rows, least_root, leaves_word, word_rest, first_front, front_at}
use Rattle.decomposition.specs.Parts.{parts_of, whole_stage, behind_front, root_text, decomposed_of}
use Rattle.decomposition.proofs.Taken.{open_say, open_inside}
use Rattle.decomposition.proofs.Leading.{word-inside}

-- x is a front part of the piece
abbrev pub IsFront : List ℕ → List ℕ → Type 0
IsFront piece x = (length x ≤ length piece) × (take (length x) piece ≡ x)

abbrev pub AllFronts : List ℕ → List (List ℕ) → Type 0
AllFronts piece [] = Unit {0}
AllFronts piece (x ∷ xs) = IsFront piece x × AllFronts piece xs

front-whole : (piece : List ℕ) → IsFront piece piece
front-whole piece = (omega arith, take_all (length piece) piece (omega arith))

front-take : (piece : List ℕ) (n : ℕ) → n ≤ length piece → IsFront piece (take n piece)
front-take piece n h = let e = length-take-le n piece h in (omega arith, ap (λ (m : ℕ). take m piece) e)

front-front : (whole piece x : List ℕ) → IsFront whole piece → IsFront piece x → IsFront whole x
front-front whole piece x f g = (
  omega (arith, f.0, g.0),
  sym (take-take (length x) (length piece) whole g.0) ∙ ap (take (length x)) f.1 ∙ g.1,
)

-- the remainders are
rests_fronts : (piece : List ℕ) (r : Rests) → Inside piece r → AllFronts piece (fronts piece r)
rests_fronts piece r i = go r.plain r.shared i.plain_in i.shared_in
  where
    go : (a b : Option ℕ) → IfSome a (λ n. n ≤ length piece) → IfSome b (λ n. n ≤ length piece) → AllFronts piece (front piece a ++ front piece b)
    go (Some n) (Some m) p q = (front-take piece n p, (front-take piece m q, tt))
    go (Some n) None p q = (front-take piece n p, tt)
    go None (Some m) p q = (front-take piece m q, tt)
    go None None p q = tt

pub left-fronts : (ask : Ask) (piece suffix : List ℕ) → AllFronts piece (left_of ask piece suffix)
left-fronts ask piece suffix = subst (AllFronts piece) (open_say ask piece suffix) (rests_fronts piece (open_rests ask piece suffix) (open_inside ask piece suffix))

first-fronts : (ask : Ask) (least : ℕ) (piece : List ℕ) (rs : List (List ℕ)) → AllFronts piece rs → AllFronts piece (first_taken ask least rs)
first-fronts ask least piece [] a = tt
first-fronts ask least piece (r ∷ rs) a = by (is_taken ask least r) (first-fronts ask least piece rs a.1)
  where
    by : (b : Bool) → AllFronts piece (first_taken ask least rs) → AllFronts piece (pick b (r ∷ []) (first_taken ask least rs))
    by true m = (a.0, tt)
    by false m = m

taken-front : (whole : List ℕ) (k : ℕ) (rs : List (List ℕ)) (s : Stage) → IsFront whole s.piece → AllFronts s.piece rs → IsFront whole (taken k rs s).piece
taken-front whole k [] s f a = f
taken-front whole k (r ∷ rs) s f a = front-front whole s.piece r f a.0

rows-front : (ask : Ask) (least k : ℕ) (rows : List (List ℕ)) (whole : List ℕ) (s : Stage) → IsFront whole s.piece → IsFront whole (strip_rows ask least k rows s).piece
unfolding strip_row
rows-front ask least k [] whole s f = f
rows-front ask least k (suffix ∷ rows) whole s f =
    rows-front ask least (suc k) rows whole (strip_row ask least k suffix s)
    (taken-front whole k (first_taken ask least (left_of ask s.piece suffix)) s f
    (first-fronts ask least s.piece (left_of ask s.piece suffix) (left-fronts ask s.piece suffix)))

-- a front lies inside the word
word_rest_is : (ask : Ask) (w form : List ℕ) → leaves_word ask w form ≡ true → Some (length form) ≡ word_rest ask w form
unfolding word_rest
word_rest_is ask w form e = rw e

front-inside : (ask : Ask) (w : List ℕ) (k : ℕ) (forms : List (List ℕ)) → (first_front ask w k forms).from ≤ length w
front-inside ask w k [] = omega arith
front-inside ask w k (form ∷ forms) = by (leaves_word ask w form) refl (front-inside ask w (suc k) forms)
  where
    by : (b : Bool) → leaves_word ask w form ≡ b → (first_front ask w (suc k) forms).from ≤ length w
        → (pick b (front_at k (length form)) (first_front ask w (suc k) forms)).from ≤ length w
    by true e h = word-inside ask w form (length form) (word_rest_is ask w form e)
    by false e h = h

-- the root of parts, where it is a front part of what stands behind the front
pub root_meant : (w : List ℕ) (f : Front) (x labels : List ℕ) → f.from ≤ length w → IsFront (drop f.from w) x → root_text w (parts_of f x labels) ≡ x
unfolding part
root_meant w f x labels h g =
    let d = length-drop f.from w in
    let a : leb f.from (f.from + length x) ≡ true = le-leb f.from (f.from + length x) (omega arith) in
    let b : leb (f.from + length x) (length w) ≡ true = le-leb (f.from + length x) (length w) (omega (arith, g.0)) in
    let m : f.from + length x - f.from ≡ length x = omega arith in
    rw (a, b, m) g.1

-- the root of a decomposition is what the strips have left
pub decomposed_root : (ask : Ask) (w : List ℕ) → root_text w (decomposed_of ask w) ≡ (behind_front ask w (first_front ask w 0 prefix_forms)).piece
unfolding decomposed_of behind_front
decomposed_root ask w =
    let f = first_front ask w 0 prefix_forms in
    let piece = drop f.from w in
    let s = strip_rows ask (least_root f.prefix) 0 suffixes (whole_stage piece) in
    root_meant w f s.piece s.labels (front-inside ask w 0 prefix_forms)
    (rows-front ask (least_root f.prefix) 0 suffixes piece (whole_stage piece) (front-whole piece))
