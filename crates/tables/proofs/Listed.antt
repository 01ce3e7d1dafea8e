-- The search of a table whose words ascend: what a binary search's answer says of the origin of a word. Cited by `lookup_origin`.
-- Assumes nothing.
use Rattle.std.proofs.Common.{◌≡◌, refl, sym, ap, ◌∙◌, ℕ, zero, suc, ◌+◌, ◌<◌, Bool, true, false, ◌&&◌, List, [], ◌∷◌, length, get_or, map, Result, Ok, Err, MatchResult, Some, None, arith}
use native.Mathlib.Nat.{not-suc-le-zero, le_of_suc-le-suc, zero-lt-suc}
use lib.ListN.{length-map}
use Rattle.std.specs.declared.cmp.Ordering.{Ordering}
use Rattle.std.specs.declared.cmp.Ordering.TheVariants.{Less, Equal, Greater}
use Rattle.std.specs.Ordering.{nat_cmp, is_lt, is_eq, ordering_index, ordering_reverse}
use Rattle.std.specs.Cmp.Lexicographic.{slice_cmp}
use Rattle.std.specs.List.Sorted.{IsSearchInRange, IsBinarySearchResult, IsNonDecreasingBy}
use Rattle.std.proofs.lemmas.List.Sorted.{searchable_from_sorted}
use Rattle.std.proofs.lemmas.Bool.Decides.{nat_tests}
use Rattle.std.proofs.lemmas.List.{get_or-map}
use Rattle.std.proofs.lemmas.Cmp.{same_from_slice_cmp, nat_list_cmp_total, alike_right}
use Rattle.runs.specs.Runs.{same_text}
use Rattle.runs.proofs.Begins.{and_left, and_right}
use Rattle.tables.specs.declared.origins.Origin.{Origin}
use Rattle.tables.specs.Origins.{origin_in}
use Rattle.tables.proofs.Compared.{by_order}

-- how two words stand, by their bytes
abbrev pub stand : List ℕ → List ℕ → Ordering
stand = slice_cmp nat_cmp

-- each word is below the next: the test over neighbours
abbrev pub ascending : List (List ℕ) → Bool
ascending [] = true
ascending (a ∷ []) = true
ascending (a ∷ b ∷ words) = is_lt (stand a b) && ascending (b ∷ words)

is-less : (o : Ordering) → is_lt o ≡ true → o ≡ Less
is-less Less e = refl
is-less Equal e = cc
is-less Greater e = cc

ascending_tail : (a : List ℕ) (words : List (List ℕ)) → ascending (a ∷ words) ≡ true → ascending words ≡ true
ascending_tail a [] t = refl
ascending_tail a (b ∷ words) t = and_right (is_lt (stand a b)) (ascending (b ∷ words)) t

first_below : (a : List ℕ) (words : List (List ℕ)) → ascending (a ∷ words) ≡ true → (j : ℕ) → j < length words → stand a (get_or words j []) ≡ Less
first_below a [] t j h = absurd (not-suc-le-zero h)
first_below a (b ∷ words) t zero h = is-less (stand a b) (and_left (is_lt (stand a b)) (ascending (b ∷ words)) t)
first_below a (b ∷ words) t (suc j) h =
    nat_list_cmp_total.trans a b (get_or words j []) (is-less (stand a b) (and_left (is_lt (stand a b)) (ascending (b ∷ words)) t))
    (first_below b words (ascending_tail a (b ∷ words) t) j (le_of_suc-le-suc h))

-- from neighbours to any two words
pub ascends : (words : List (List ℕ)) → ascending words ≡ true → (i j : ℕ) → i < j → j < length words
    → stand (get_or words i []) (get_or words j []) ≡ Less
ascends [] t i j l h = absurd (not-suc-le-zero h)
ascends (a ∷ words) t i zero l h = absurd (not-suc-le-zero l)
ascends (a ∷ words) t zero (suc j) l h = first_below a words t j (le_of_suc-le-suc h)
ascends (a ∷ words) t (suc i) (suc j) l h = ascends words (ascending_tail a words t) i j (le_of_suc-le-suc l) (le_of_suc-le-suc h)

-- two words are the same where neither is below the other
same_stand : (a b : List ℕ) → is_eq (stand a b) ≡ same_text a b
same_stand a b = same_from_slice_cmp nat_cmp is_eq same_text refl (λ _ _. refl) (λ _ _. refl) (λ x y xs ys o h. grind (arith, nat_tests)) a b (stand a b) refl

module _ {A : Type 0} (word : A → List ℕ) (tag : A → Origin) (w : List ℕ) where
  -- no row's word is w
  pub not_listed : (rows : List A) → ((k : ℕ) (d : A) → k < length rows → same_text (word (get_or rows k d)) w ≡ false)
      → None ≡ origin_in (map word rows) (map tag rows) w
  not_listed [] h = refl
  not_listed (r ∷ rows) h = rw (h 0 r (zero-lt-suc (length rows))) (not_listed rows (λ k d l. h (suc k) d (omega arith)))

  -- row m's word is w, and no earlier one
  pub listed_at : (rows : List A) (m : ℕ) (d : A) → m < length rows → ((k : ℕ) → k < m → same_text (word (get_or rows k d)) w ≡ false)
      → same_text (word (get_or rows m d)) w ≡ true → Some (tag (get_or rows m d)) ≡ origin_in (map word rows) (map tag rows) w
  listed_at [] m d l h e = absurd (not-suc-le-zero l)
  listed_at (r ∷ rows) zero d l h e = rw e
  listed_at (r ∷ rows) (suc m) d l h e = rw (h 0 (zero-lt-suc m)) (listed_at rows m d (le_of_suc-le-suc l) (λ k u. h (suc k) (omega arith)) e)

  other : (a : List ℕ) (o : Ordering) → stand a w ≡ o → is_eq o ≡ false → same_text a w ≡ false
  other a o e f = sym (same_stand a w) ∙ ap is_eq e ∙ f

  module _ (rows : List A) (words : List (List ℕ)) (tags : List Origin) (e : map word rows ≡ words) (f : map tag rows ≡ tags) (up : ascending words ≡ true) where
    above : (i j : ℕ) (d : A) → i < j → j < length rows → stand (word (get_or rows i d)) (word (get_or rows j d)) ≡ Less
    above i j d l h =
        let n = length-map rows word in
        rw (get_or-map word rows i d [] (omega arith), get_or-map word rows j d [] h) at (ascends (map word rows) (rw e up) i j l (rw n h))

    rising : IsNonDecreasingBy (λ r. ordering_index (stand (word r) w)) rows
    rising =
        searchable_from_sorted nat_list_cmp_total word rows w
        (λ k d _ h. ap is_lt (nat_list_cmp_total.antisymm (word (get_or rows (k + 1) d)) (word (get_or rows k d)) ∙ ap ordering_reverse (above k (k + 1) d (omega arith) h)))

    -- what the search answers: a row that is the only one of its word, or a place that parts the rows below w from those above
    pub searched : (r : Result ℕ ℕ) → IsSearchInRange r (length rows) → IsBinarySearchResult (λ r. stand (word r) w) rows r
        → MatchResult r (λ k. (d : A) → Some (tag (get_or rows k d)) ≡ origin_in words tags w) (λ _. None ≡ origin_in words tags w)
    searched (Ok k) l h = λ d.
        rw (← e, ← f)
        (listed_at rows k d l
        (λ j u. other (word (get_or rows j d)) Less (sym (alike_right nat_list_cmp_total (word (get_or rows k d)) w (word (get_or rows j d)) (h d)) ∙ above j k d u l) refl)
        (sym (same_stand (word (get_or rows k d)) w) ∙ ap is_eq (h d)))
    searched (Err k) l h =
        let parted = h rising in
        rw (← e, ← f)
        (not_listed rows
        (λ j d u.
        by_order j k (λ v. other (word (get_or rows j d)) Less (parted.0 j d (omega arith) v) refl)
        (λ v. other (word (get_or rows j d)) Greater (parted.1 j d v u) refl)))
