-- What a few bytes tell of a word: whether ORIGIN_TABLE can have it; where no tail opens a mark, no mark of Aagantuk or Tatsam words stands in it; where its last two
-- characters end no suffix, it has no remainder. Assumes nothing.
use Prim.Native.Nat.{ℕ, zero, suc, ◌+◌, ◌-◌, ◌≤◌, ◌<◌}
use native.Mathlib.Omega.{arith}
use mathlib.Core.Path.{◌≡◌, refl, sym, ap, ◌∙◌}
use mathlib.Core.Bool.{Bool, true, false, ◌&&◌, ◌||◌}
use mathlib.Core.List.{List, [], ◌∷◌, ◌++◌}
use lib.ListN.{length, drop, get_or}
use lib.Seq.{get_or-drop, drop-drop}
use Rattle.std.specs.List.{list_any, range_with_len}
use lib.Dec.{ltb, leb}
use borrow.Author.Tests.{leb-true, ltb-true, le-ltb}
use Rattle.runs.specs.Runs.{pick, same_text, begins_with, ends_in}
use Rattle.runs.proofs.Begins.{begins-front, and_left, and_right}
use Rattle.runs.proofs.Ordered.{same_true}
use Rattle.tables.specs.Rows.{strip_suffixes, origin_words, origin_tags}
use Rattle.tables.specs.Origins.{origin_in, origin_of}
use Rattle.tables.specs.declared.origins.Origin.{Origin}
use Rattle.std.proofs.Common.{None}
use Rattle.tables.proofs.Compared.{ends_is}
use Rattle.tables.proofs.Tested.{every}
use Rattle.strips.specs.Suffix.{sheds, plain, shared, remainders, first_length}
use Rattle.sheet.specs.Replies.{Ask}
use Rattle.origin.specs.Marks.{contains, some, contains_one, begins_one, aagantuk_marks, nukta, after_first, has_aagantuk_markers, tatsam_marks, has_tatsam_markers}
use Rattle.std.specs.Option.{option_or}
use Rattle.std.specs.Prelude.{Option, None}
use Rattle.origin.specs.Decisions.{first_known, known_rest, known_under, known_stem}
use Rattle.origin.specs.declared.kosha.Known.{Known}
use Rattle.origin.specs.Quick.{last_bytes, ends_listed, may_list, opens_cluster, low_mark, high_mark, opens_mark, may_open, Opens, somewhere, may_mark, ends_strip, may_strip}

-- A test of the tails, one by one.

module _ (f : List ℕ → Bool) where
  -- what is left of w from its place k on
  any_from : (w v : List ℕ) (k : ℕ) → v ≡ drop k w → somewhere f v ≡ list_any (λ i. f (drop i w)) (range_with_len k (length v))
  any_from w [] k e = refl
  any_from w (b ∷ v) k e =
      ap (λ (x : Bool). x || somewhere f v) (ap f e) ∙ ap (λ (x : Bool). f (drop k w) || x) (any_from w v (k + 1) (ap (drop 1) e ∙ drop-drop 1 k w))

  pub somewhere_any : (w : List ℕ) → somewhere f w ≡ list_any (λ i. f (drop i w)) (range_with_len 0 (length w))
  somewhere_any w = any_from w w 0 refl

-- Marks. Each opens, whatever follows it.

pub tatsam_opens : Opens tatsam_marks
unfolding tatsam_marks may_open opens_mark low_mark high_mark opens_cluster
tatsam_opens = (
  (λ r. refl),
  (
    (λ r. refl),
    (
      (λ r. refl),
      (
        (λ r. refl),
        (
          (λ r. refl),
          (
            (λ r. refl),
            (
              (λ r. refl),
              (
                (λ r. refl),
                (
                  (λ r. refl),
                  (
                    (λ r. refl),
                    (
                      (λ r. refl),
                      (
                        (λ r. refl),
                        ((λ r. refl), tt),
                      ),
                    ),
                  ),
                ),
              ),
            ),
          ),
        ),
      ),
    ),
  ),
)

pub aagantuk_opens : Opens aagantuk_marks
unfolding aagantuk_marks may_open opens_mark low_mark high_mark opens_cluster
aagantuk_opens = ((λ r. refl), ((λ r. refl), ((λ r. refl), ((λ r. refl), ((λ r. refl), ((λ r. refl), ((λ r. refl), ((λ r. refl), tt))))))))

pub nukta_opens : Opens (nukta ∷ [])
unfolding may_open opens_mark low_mark high_mark opens_cluster
nukta_opens = ((λ r. refl), tt)

or_false : (a b : Bool) → (a || b) ≡ false → (a ≡ false) × (b ≡ false)
or_false true b e = let z : ◌≡◌ {A = ℕ} 0 1 = cc in absurd (omega arith)
or_false false b e = (refl, e)

no_front_lem : (t s : List ℕ) → ((rest : List ℕ) → may_open (t ++ rest) ≡ true) → may_open s ≡ false → begins_with t s ≡ false
no_front_lem t s o e = by (begins_with t s) refl
  where
    by : (x : Bool) → begins_with t s ≡ x → x ≡ false
    by false b = refl
    by true b =
        let z : true ≡ false = sym (o (drop (length t) s)) ∙ ap may_open (sym (begins-front t s b)) ∙ e in
        z

-- where no tail opens a mark, the mark is not contained
not_contained : (t w : List ℕ) → ((rest : List ℕ) → may_open (t ++ rest) ≡ true) → may_open [] ≡ false → somewhere may_open w ≡ false → contains t w ≡ false
not_contained t [] o n e = no_front_lem t [] o n
not_contained t (b ∷ w) o n e =
    let p = or_false (may_open (b ∷ w)) (somewhere may_open w) e in
    rw (no_front_lem t (b ∷ w) o p.0) (not_contained t w o n p.1)

empty_shut : may_open [] ≡ false
unfolding may_open
empty_shut = refl

-- where a byte is not 0, it is one of the word's
pub byte_inside : (w : List ℕ) (i : ℕ) → get_or w i 0 ≡ 0xE0 → i < length w
byte_inside [] i e = absurd (omega arith)
byte_inside (b ∷ w) zero e = omega arith
byte_inside (b ∷ w) (suc i) e = let h = byte_inside w i e in omega arith

-- The search for one of several texts.

or_swap : (a b c d : Bool) → ((a || b) || (c || d)) ≡ ((a || c) || (b || d))
or_swap true b c d = refl
or_swap false true true d = refl
or_swap false true false d = refl
or_swap false false c d = refl

some_or : (f g : List ℕ → Bool) (ts : List (List ℕ)) → some (λ (t : List ℕ). f t || g t) ts ≡ (some f ts || some g ts)
some_or f g [] = refl
some_or f g (t ∷ ts) = ap (λ (b : Bool). (f t || g t) || b) (some_or f g ts) ∙ or_swap (f t) (g t) (some f ts) (some g ts)

none_begin : (ts : List (List ℕ)) (s : List ℕ) → Opens ts → may_open s ≡ false → begins_one ts s ≡ false
none_begin [] s o e = refl
none_begin (t ∷ ts) s o e = rw (no_front_lem t s o.0 e) (none_begin ts s o.1 e)

-- a place that opens no mark need not be looked at
opened_one : (ts : List (List ℕ)) (s : List ℕ) → Opens ts → (may_open s && begins_one ts s) ≡ begins_one ts s
opened_one ts s o = by (may_open s) refl
  where
    by : (b : Bool) → may_open s ≡ b → (b && begins_one ts s) ≡ begins_one ts s
    by true e = refl
    by false e = sym (none_begin ts s o e)

pub some_opened : (ts : List (List ℕ)) (w : List ℕ) → Opens ts → somewhere (λ (s : List ℕ). may_open s && begins_one ts s) w ≡ some (λ (t : List ℕ). contains t w) ts
some_opened ts [] o = sym (none_begin ts [] o empty_shut)
some_opened ts (b ∷ w) o =
    ap (λ (x : Bool). x || somewhere (λ (s : List ℕ). may_open s && begins_one ts s) w) (opened_one ts (b ∷ w) o)
    ∙ ap (λ (x : Bool). begins_one ts (b ∷ w) || x) (some_opened ts w o)
    ∙ sym (some_or (λ (t : List ℕ). begins_with t (b ∷ w)) (λ (t : List ℕ). contains t w) ts)

none_contained : (ts : List (List ℕ)) (w : List ℕ) → Opens ts → somewhere may_open w ≡ false → some (λ (t : List ℕ). contains t w) ts ≡ false
none_contained [] w o e = refl
none_contained (t ∷ ts) w o e = rw (not_contained t w o.0 empty_shut e) (none_contained ts w o.1 e)

tail_shut : (k : ℕ) (w : List ℕ) → somewhere may_open w ≡ false → somewhere may_open (drop k w) ≡ false
tail_shut zero w e = e
tail_shut (suc k) [] e = e
tail_shut (suc k) (b ∷ w) e = tail_shut k w (or_false (may_open (b ∷ w)) (somewhere may_open w) e).1

pub no_aagantuk : (w : List ℕ) → may_mark w ≡ false → has_aagantuk_markers w ≡ false
unfolding may_mark has_aagantuk_markers contains_one
no_aagantuk w e = rw (none_contained aagantuk_marks w aagantuk_opens e) (not_contained nukta (after_first w) nukta_opens.0 empty_shut (tail_shut (first_length w) w e))

pub no_tatsam : (w : List ℕ) → may_mark w ≡ false → has_tatsam_markers w ≡ false
unfolding may_mark has_tatsam_markers contains_one
no_tatsam w e = none_contained tatsam_marks w tatsam_opens e

-- Suffixes. Each ends as the test says.

abbrev is_ending : ℕ → List ℕ → Bool
is_ending k t = leb 6 (length t) && ends_strip (get_or t (length t - 4) 0) (get_or t (length t - 1) 0)

endings : every is_ending 0 strip_suffixes ≡ true
unfolding strip_suffixes ends_strip
endings = refl

-- a word that ends in a text has its last bytes
last_byte : (t w : List ℕ) (k : ℕ) → ends_in t w ≡ true → length t ≤ length w → k ≤ length t → 0 < k → get_or w (length w - k) 0 ≡ get_or t (length t - k) 0
last_byte t w k e l h p =
    let n = length w - length t in
    let z : n + (length t - k) ≡ length w - k = omega arith in
    ap (λ (j : ℕ). get_or w j 0) (sym z) ∙ sym (get_or-drop n w (length t - k) 0) ∙ ap (λ (s : List ℕ). get_or s (length t - k) 0) (ends_is t w e)

no_ending : (w t : List ℕ) → is_ending 0 t ≡ true → may_strip w ≡ false → sheds w t ≡ false
unfolding sheds may_strip
no_ending w t i e = by (ltb (length t) (length w)) (ends_in t w) refl refl
  where
    by : (a b : Bool) → ltb (length t) (length w) ≡ a → ends_in t w ≡ b → (a && b) ≡ false
    by false b p q = refl
    by true false p q = refl
    by true true p q =
        let l = ltb-true (length t) (length w) p in
        let m = leb-true 6 (length t) (and_left (leb 6 (length t)) _ i) in
        let x = last_byte t w 4 q (omega arith) (omega arith) (omega arith) in
        let y = last_byte t w 1 q (omega arith) (omega arith) (omega arith) in
        let z : ends_strip (get_or w (length w - 4) 0) (get_or w (length w - 1) 0) ≡ true = rw (x, y) (and_right (leb 6 (length t)) _ i) in
        let u : pick (ltb (length w) 6) false (ends_strip (get_or w (length w - 4) 0) (get_or w (length w - 1) 0)) ≡ true = rw (le-ltb (length w) 6 (omega arith), z) in
        sym u ∙ e

none_left : (w t : List ℕ) → sheds w t ≡ false → remainders w t ≡ []
unfolding remainders plain shared
none_left w t e = rw e

under_none : (ask : Ask) (w t : List ℕ) → remainders w t ≡ [] → known_under ask w t ≡ None
unfolding known_under
under_none ask w t e = ap (first_known (known_rest ask)) e

pub no-stem : (ask : Ask) (w : List ℕ) → may_strip w ≡ false → None ≡ known_stem ask w
unfolding known_stem
no-stem ask w e = sym (over strip_suffixes 0 endings)
  where
    over : (ts : List (List ℕ)) (k : ℕ) → every is_ending k ts ≡ true → first_known (known_under ask w) ts ≡ None
    over [] k h = refl
    over (t ∷ ts) k h =
        let i = and_left (is_ending k t) (every is_ending (suc k) ts) h in
        ap (λ (x : Option Known). option_or x (first_known (known_under ask w) ts)) (under_none ask w t (none_left w t (no_ending w t i e)))
        ∙ over ts (suc k) (and_right (is_ending k t) (every is_ending (suc k) ts) h)

-- The table. Each of its words passes the test.

listed_words : every (λ (k : ℕ) (t : List ℕ). may_list t) 0 origin_words ≡ true
unfolding origin_words may_list ends_listed last_bytes
listed_words = refl

pub not_listed : (w : List ℕ) → may_list w ≡ false → None ≡ origin_of w
unfolding origin_of
not_listed w e = sym (over origin_words origin_tags 0 listed_words)
  where
    other : (r : List ℕ) → may_list r ≡ true → same_text r w ≡ false
    other r h = by (same_text r w) refl
      where
        by : (b : Bool) → same_text r w ≡ b → b ≡ false
        by false q = refl
        by true q = sym h ∙ ap may_list (same_true r w q) ∙ e

    over : (rs : List (List ℕ)) (tags : List Origin) (k : ℕ) → every (λ (k : ℕ) (t : List ℕ). may_list t) k rs ≡ true → origin_in rs tags w ≡ None
    over [] tags k h = refl
    over (r ∷ rs) [] k h = refl
    over (r ∷ rs) (o ∷ tags) k h =
        rw (other r (and_left (may_list r) (every (λ (k : ℕ) (t : List ℕ). may_list t) (suc k) rs) h))
        (over rs tags (suc k) (and_right (may_list r) (every (λ (k : ℕ) (t : List ℕ). may_list t) (suc k) rs) h))
