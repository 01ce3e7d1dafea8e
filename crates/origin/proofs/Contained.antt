-- Marks are defined by their bytes. In UTF-8 text, as every accepted word is, the bytes of a mark are whole characters: what stands
-- before and behind them is UTF-8 too. So containing a mark's bytes is containing its characters, as the source asks. Assumes nothing.
use mathlib.Core.Path.{◌≡◌, refl, sym, ap, ◌∙◌}
use mathlib.Core.Bool.{Bool, true, false, ◌&&◌, ◌||◌}
use mathlib.Core.List.{List, [], ◌∷◌, ◌++◌, Memᴰ}
use Prim.Native.Nat.{ℕ, ◌-◌, ◌<◌}
use native.Mathlib.Omega.{arith}
use lib.ListN.{length, take, drop, take-append-drop}
use lib.Dec.{ltb}
use borrow.Author.Tests.{ltb-true}
use Rattle.runs.specs.Runs.{begins_with, ends_in}
use Rattle.runs.proofs.Begins.{and_left, and_right, begins-front, front-begins}
use Rattle.runs.proofs.Ends.{ends_split}
use Rattle.text.specs.Utf8.{within, utf8_char, opened, after, run, is_utf8}
use Rattle.strips.specs.Suffix.{first_length, first_character}
use Rattle.strips.proofs.Parts.{begun, utf8_begun, utf8_before, utf8_front, utf8_back}
use Rattle.strips.proofs.First.{first_utf8}
use Rattle.origin.specs.Marks.{contains, some, contains_one, ends_in_one, aagantuk_marks, nukta, after_first, tatsam_marks, tadbhav_ends}

-- w is something, t and something more
pub record Within (t w : List ℕ) : Type 0 where
  pub front : List ℕ
  pub back : List ℕ
  pub makes : w ≡ front ++ (t ++ back)

-- containing is just that

pub contains-within : (t w : List ℕ) → contains t w ≡ true → Within t w
contains-within t [] e = record { front = []; back = drop (length t) []; makes = begins-front t [] e }
contains-within t (b ∷ w) e = go (begins_with t (b ∷ w)) refl e (contains-within t w)
  where
    go : (x : Bool) → begins_with t (b ∷ w) ≡ x → (x || contains t w) ≡ true → (contains t w ≡ true → Within t w) → Within t (b ∷ w)
    go true p q rest = record { front = []; back = drop (length t) (b ∷ w); makes = begins-front t (b ∷ w) p }
    go false p q rest =
        let r = rest q in
        record { front = b ∷ r.front; back = r.back; makes = ap (λ (l : List ℕ). b ∷ l) r.makes }

begins-contains : (t s : List ℕ) → begins_with t s ≡ true → contains t s ≡ true
begins-contains t [] e = e
begins-contains t (b ∷ s) e = rw e

or-last : (a b : Bool) → b ≡ true → (a || b) ≡ true
or-last true b e = refl
or-last false b e = e

pub within-contains : (a t b : List ℕ) → contains t (a ++ (t ++ b)) ≡ true
within-contains [] t b = begins-contains t (t ++ b) (front-begins t b)
within-contains (x ∷ a) t b = or-last (begins_with t (x ∷ (a ++ (t ++ b)))) _ (within-contains a t b)

-- a text of UTF-8, not empty
unfoldable is_mark : List ℕ → Bool
is_mark t = ltb 0 (length t) && is_utf8 t

mark_begins : (t s : List ℕ) → 0 < length t → begun t ≡ true → begun (t ++ s) ≡ true
mark_begins [] s h e = absurd (omega arith)
mark_begins (b ∷ t) s h e = e

-- whole characters before it and behind it
pub record Characters (t w : List ℕ) : Type 0 where
  pub split : Within t w
  pub mark_utf8 : is_utf8 t ≡ true
  pub front_utf8 : is_utf8 split.front ≡ true
  pub back_utf8 : is_utf8 split.back ≡ true

characters : (t w : List ℕ) → is_mark t ≡ true → is_utf8 w ≡ true → contains t w ≡ true → Characters t w
unfolding is_mark
characters t w m u e =
    let r = contains-within t w e in
    let h = ltb-true 0 (length t) (and_left (ltb 0 (length t)) (is_utf8 t) m) in
    let v = and_right (ltb 0 (length t)) (is_utf8 t) m in
    let all : is_utf8 (r.front ++ (t ++ r.back)) ≡ true = ap is_utf8 (sym r.makes) ∙ u in
    let f = utf8_before r.front (t ++ r.back) all (mark_begins t r.back h (utf8_begun t v)) in
    record { split = r; mark_utf8 = v; front_utf8 = f; back_utf8 = utf8_back t r.back v (utf8_back r.front (t ++ r.back) f all) }

-- Of the marks.

abbrev all : List (List ℕ) → Bool
all [] = true
all (t ∷ ts) = is_mark t && all ts

-- one of the texts, of which P holds
pub record One (ts : List (List ℕ)) (P : List ℕ → Type 0) : Type 0 where
  pub text : List ℕ
  pub among : Memᴰ text ts
  pub holds : P text

one : (f : List ℕ → Bool) (P : List ℕ → Type 0) (ts : List (List ℕ)) → ((t : List ℕ) → is_mark t ≡ true → f t ≡ true → P t) → all ts ≡ true
    → some f ts ≡ true → One ts P
one f P [] g a e = let z : ◌≡◌ {A = ℕ} 0 1 = cc in absurd (omega arith)
one f P (t ∷ ts) g a e = go (f t) refl e (one f P ts g (and_right (is_mark t) (all ts) a))
  where
    go : (x : Bool) → f t ≡ x → (x || some f ts) ≡ true → (some f ts ≡ true → One ts P) → One (t ∷ ts) P
    go true p q rest = record { text = t; among = Memᴰ.head refl; holds = g t (and_left (is_mark t) (all ts) a) p }
    go false p q rest =
        let r = rest q in
        record { text = r.text; among = Memᴰ.tail r.among; holds = r.holds }

module _ (w : List ℕ) (u : is_utf8 w ≡ true) where
  pub aagantuk_characters : contains_one aagantuk_marks w ≡ true → One aagantuk_marks (λ t. Characters t w)
  unfolding contains_one aagantuk_marks is_mark is_utf8 run after opened utf8_char within
  aagantuk_characters e = one (λ t. contains t w) (λ t. Characters t w) aagantuk_marks (λ t m f. characters t w m u f) refl e

  pub tatsam_characters : contains_one tatsam_marks w ≡ true → One tatsam_marks (λ t. Characters t w)
  unfolding contains_one tatsam_marks is_mark is_utf8 run after opened utf8_char within
  tatsam_characters e = one (λ t. contains t w) (λ t. Characters t w) tatsam_marks (λ t m f. characters t w m u f) refl e

  -- what follows the first character is text, in which the nukta is a whole character
  after_first_utf8 : is_utf8 (after_first w) ≡ true
  after_first_utf8 =
      utf8_back (first_character w) (after_first w) (first_utf8 w u) (ap is_utf8 (take-append-drop (first_length w) w) ∙ u)

  nukta_mark : is_mark nukta ≡ true
  unfolding is_mark is_utf8 run after opened utf8_char within
  nukta_mark = refl

  pub nukta-characters : contains nukta (after_first w) ≡ true → Characters nukta (after_first w)
  nukta-characters e = characters nukta (after_first w) nukta_mark after_first_utf8 e

  -- and what stands before the end that a word has is text
  ends-characters : (t : List ℕ) → is_mark t ≡ true → ends_in t w ≡ true → is_utf8 (take (length w - length t) w) ≡ true
  unfolding is_mark
  ends-characters t m e =
      utf8_front (take (length w - length t) w) t (ap is_utf8 (sym (ends_split t w e)) ∙ u) (and_right (ltb 0 (length t)) (is_utf8 t) m)

  pub tadbhav_characters : ends_in_one tadbhav_ends w ≡ true → One tadbhav_ends (λ t. (ends_in t w ≡ true) × (is_utf8 (take (length w - length t) w) ≡ true))
  unfolding ends_in_one tadbhav_ends is_mark is_utf8 run after opened utf8_char within
  tadbhav_characters e =
      one (λ t. ends_in t w) (λ t. (ends_in t w ≡ true) × (is_utf8 (take (length w - length t) w) ≡ true)) tadbhav_ends
      (λ t m f. (f, ends-characters t m f)) refl e
