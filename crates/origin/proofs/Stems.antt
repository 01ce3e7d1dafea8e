-- Laws of what is known of a word's remainders: those under one suffix, and those under each suffix of the table. Assumes nothing.
use Rattle.std.specs.Prelude.{Option, Some, None}
use Rattle.tables.specs.declared.origins.Origin.{Origin}
use mathlib.Core.Path.{◌≡◌, refl, sym, ap, ◌∙◌}
use mathlib.Core.Bool.{Bool, true, false}
use mathlib.Core.List.{List, [], ◌++◌, append-nil}
use Prim.Native.Nat.{ℕ, ◌+◌, ◌<◌, ◌≤◌}
use native.Mathlib.Numerals.{add-one}
use lib.ListN.{length, take, drop, get_or, drop_of_length-le}
use lib.Seq.{drop-cons}
use Rattle.std.specs.Option.{option_or}
use Rattle.std.specs.Bool.{then_some}
use Rattle.runs.specs.Runs.{pick}
use Rattle.strips.specs.Suffix.{rests_of, front, fronts}
use Rattle.strips.specs.declared.suffix.Rests.{Rests}
use Rattle.strips.proofs.Remainders.{shared_with_plain, Inside, rests_say, rests_inside}
use Rattle.sheet.specs.Replies.{Ask, reply, letters_told, letters_for}
use Rattle.sheet.specs.declared.letters.Letters.{Letters}
use Rattle.origin.specs.Decisions.{if_untagged, known_in, known_by, first_known, known_rest, known_under}
use Rattle.origin.specs.declared.kosha.Known.{Known}
use Rattle.origin.specs.declared.kosha.Known.TheVariants.{Tagged, Headword}

-- One name: what its letters say.

-- t and b are what was found of tag and headword
pub told : (s name : List ℕ) (l : Letters) (t : Option Origin) (b : Bool) → l ≡ letters_for s (name ++ []) → l.tag ≡ t → l.head ≡ b
    → if_untagged (pick b (Some Headword) None) t ≡ known_by (reply s) name
unfolding known_by known_in letters_for
told s name l t b e f h =
    let z : l ≡ letters_told (reply s 0x77 name) = e ∙ ap (λ (n : List ℕ). letters_told (reply s 0x77 n)) (append-nil name) in
    ap (λ (x : Option Origin). if_untagged (pick b (Some Headword) None) x) (sym f) ∙ ap (λ (x : Bool). if_untagged (pick x (Some Headword) None) l.tag) (sym h) ∙ ap known_in z

pub tagged : (s name : List ℕ) (l : Letters) (o : Origin) → l ≡ letters_for s (name ++ []) → l.tag ≡ Some o → Some (Tagged o) ≡ known_by (reply s) name
tagged s name l o e f = told s name l (Some o) l.head e f refl

-- where there is no tag
pub headed : (b : Bool) → then_some b Headword ≡ pick b (Some Headword) None
headed true = refl
headed false = refl

-- One turn of the walk over suffixes.

module _ (f : List ℕ → Option Known) (rows : List (List ℕ)) (k : ℕ) where
  pub first_at : (x : Option Known) → k < length rows → x ≡ f (get_or rows k []) → first_known f (drop k rows) ≡ option_or x (first_known f (drop (k + 1) rows))
  first_at x h e = rw (add-one, drop-cons rows k [], e)

  pub first-end : length rows ≤ k → first_known f (drop k rows) ≡ None
  first-end h = rw (drop_of_length-le rows h)

-- Under one suffix: the remainders by the lengths that the code has of them.

or_nothing : (x : Option Known) → option_or x None ≡ x
or_nothing (Some k) = refl
or_nothing None = refl

module _ (ask : Ask) (w suffix : List ℕ) (r : Rests) (e : r ≡ rests_of w suffix) where
  under : first_known (known_rest ask) (fronts w r) ≡ known_under ask w suffix
  unfolding known_under
  under = ap (first_known (known_rest ask)) (ap (fronts w) e ∙ rests_say w suffix)

  -- both lie inside the word
  pub under_inside : Inside w r
  under_inside = rw e (rests_inside w suffix)

  -- p and q are what was found of both
  under_by : (p q : Option ℕ) → r.plain ≡ p → r.shared ≡ q → first_known (known_rest ask) (front w p ++ front w q) ≡ known_under ask w suffix
  under_by p q f g = rw (f, g) at under

  -- there is none
  pub under_none : r.plain ≡ None → None ≡ known_under ask w suffix
  under_none n = under_by None None n (rw (sym e) at (shared_with_plain w suffix (ap (λ (x : Rests). x.plain) (sym e) ∙ n)))

  -- something is known of the plain one
  pub under_plain : (n : ℕ) (known : Known) → r.plain ≡ Some n → Some known ≡ known_rest ask (take n w) → Some known ≡ known_under ask w suffix
  under_plain n known f p =
      ap (λ (k : Option Known). option_or k (first_known (known_rest ask) (front w r.shared))) p ∙ under_by (Some n) r.shared f refl

  -- nothing is, and there is no other
  pub under_one : (n : ℕ) → r.plain ≡ Some n → r.shared ≡ None → None ≡ known_rest ask (take n w) → None ≡ known_under ask w suffix
  under_one n f g p = ap (λ (k : Option Known). option_or k None) p ∙ under_by (Some n) None f g

  -- nothing is, and the shared one decides
  pub under_two : (n m : ℕ) → r.plain ≡ Some n → r.shared ≡ Some m → None ≡ known_rest ask (take n w)
      → known_rest ask (take m w) ≡ known_under ask w suffix
  under_two n m f g p =
      sym (or_nothing (known_rest ask (take m w)))
      ∙ ap (λ (k : Option Known). option_or k (option_or (known_rest ask (take m w)) None)) p ∙ under_by (Some n) (Some m) f g
