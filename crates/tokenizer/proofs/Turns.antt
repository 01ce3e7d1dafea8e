-- One turn of the pass over a text: the characters from a place on, whether they are UTF-8, and the tokens that they make. The proof of
-- `walk` cites these. Assumes nothing.
use Prim.Native.Nat.{ℕ, zero, suc, ◌+◌, ◌-◌, ◌*◌, ◌≤◌, ◌<◌}
use native.Mathlib.Nat.{add-zero, zero-add}
use native.Mathlib.Omega.{arith}
use mathlib.Core.Path.{◌≡◌, refl, sym, ap, ◌∙◌}
use mathlib.Core.Bool.{Bool, true, false, ◌&&◌, ◌||◌}
use mathlib.Core.List.{List, [], ◌∷◌}
use lib.ListN.{length, take, drop, drop_of_length-le, length-drop, set}
use lib.Seq.{drop-drop}
use borrow.Author.Tests.{le-leb, le-ltb, lt-ltb, leb-true, leb-false}
use Rattle.std.proofs.lemmas.Option.{none-some, same_Some}
use Rattle.std.specs.declared.option.Option.TheVariants.{Some, None}
use lib.Dec.{leb}
use Rattle.runs.specs.Runs.{pick}
use Rattle.text.specs.Utf8.{Range, within, utf8_char, Owed, owes, misfit, opened, after, run, whole, is_utf8}
use Rattle.text.proofs.Grammar.{no, lost}
use Rattle.tokenizer.specs.Scalars.{scalar}
use Rattle.tokenizer.specs.Parting.{parts, devanagari}
use Rattle.tokenizer.specs.Tokens.{Span, span}
use Rattle.tokenizer.specs.Scanned.{fits, width_by, width, Chars, finished, broken, char, chars_from, kept, scan, tokens_of}
use Rattle.tokenizer.specs.Looked.{sight, seen}
use Rattle.tokenizer.specs.declared.seen.Seen.{Seen}
use Rattle.tokenizer.specs.Stored.{put, stored, counted, Ended}

-- what the bytes of a begun character leave
fits-run : (rs : List Range) (s : List ℕ) → fits rs s ≡ true → run (owes rs) s ≡ run (owes []) (drop (length rs) s)
unfolding fits run after
fits-run [] s e = refl
fits-run (r ∷ rs) [] e = no refl e
fits-run (r ∷ rs) (b ∷ s) e = by (within r b) e (fits-run rs s)
  where
    by : (x : Bool) → (x && fits rs s) ≡ true → (fits rs s ≡ true → run (owes rs) s ≡ run (owes []) (drop (length rs) s))
        → run (pick x (owes rs) misfit) s ≡ run (owes []) (drop (length rs) s)
    by true e k = k e
    by false e k = no refl e

no_fit : (rs : List Range) (s : List ℕ) → fits rs s ≡ false → whole (run (owes rs) s) ≡ false
unfolding fits run after
no_fit [] s e = no e refl
no_fit (r ∷ rs) [] e = refl
no_fit (r ∷ rs) (b ∷ s) e = by (within r b) e (no_fit rs s)
  where
    by : (x : Bool) → (x && fits rs s) ≡ false → (fits rs s ≡ false → whole (run (owes rs) s) ≡ false) → whole (run (pick x (owes rs) misfit) s) ≡ false
    by true e k = k e
    by false e k = ap whole (lost s)

owed_none : (o : Owed) (s : List ℕ) → width_by o s ≡ 0 → whole (run o s) ≡ false
owed_none misfit s e = ap whole (lost s)
owed_none (owes rs) s e = by (fits rs s) refl e
  where
    by : (x : Bool) → fits rs s ≡ x → pick x (suc (length rs)) 0 ≡ 0 → whole (run (owes rs) s) ≡ false
    by true f e = absurd (omega arith)
    by false f e = no_fit rs s f

owed-some : (o : Owed) (s : List ℕ) → (width_by o s ≡ 0 → ⊥) → run o s ≡ run (owes []) (drop (width_by o s - 1) s)
owed-some misfit s ne = absurd (ne refl)
owed-some (owes rs) s ne = by (fits rs s) refl ne
  where
    by : (x : Bool) → fits rs s ≡ x → (pick x (suc (length rs)) 0 ≡ 0 → ⊥) → run (owes rs) s ≡ run (owes []) (drop (pick x (suc (length rs)) 0 - 1) s)
    by true f ne = let p : suc (length rs) - 1 ≡ length rs = omega arith in rw p (fits-run rs s f)
    by false f ne = absurd (ne refl)

front-none : (b : ℕ) (s : List ℕ) → width (b ∷ s) ≡ 0 → is_utf8 (b ∷ s) ≡ false
unfolding is_utf8 run after width
front-none b s e = owed_none (opened utf8_char b) s e

front-some : (b : ℕ) (s : List ℕ) → (width (b ∷ s) ≡ 0 → ⊥) → is_utf8 (b ∷ s) ≡ is_utf8 (drop (width (b ∷ s) - 1) s)
unfolding is_utf8 run after width
front-some b s ne = ap whole (owed-some (opened utf8_char b) s ne)

-- the bytes passed over
pub chars_pass : (k : ℕ) (s : List ℕ) → chars_from k s ≡ chars_from 0 (drop k s)
unfolding chars_from
chars_pass zero s = refl
chars_pass (suc k) [] = refl
chars_pass (suc k) (b ∷ s) = chars_pass k s

pub chars-one : (b : ℕ) (s : List ℕ) → (width (b ∷ s) ≡ 0 → ⊥)
    → chars_from 0 (b ∷ s) ≡ char (width (b ∷ s)) (parts (scalar (take (width (b ∷ s)) (b ∷ s)))) (devanagari (scalar (take (width (b ∷ s)) (b ∷ s)))) (chars_from 0 (drop (width (b ∷ s) - 1) s))
unfolding chars_from
chars-one b s ne = rw (le-leb 1 (width (b ∷ s)) (omega arith), chars_pass (width (b ∷ s) - 1) s)

chars-none : (b : ℕ) (s : List ℕ) → width (b ∷ s) ≡ 0 → chars_from 0 (b ∷ s) ≡ broken
unfolding chars_from
chars-none b s e = rw e

-- a character that is met, or none where the text goes on
met : (t : List ℕ) (r : Seen) → Some r ≡ seen t → (r ≡ sight (width t) (parts (scalar (take (width t) t))) (devanagari (scalar (take (width t) t)))) × (1 ≤ width t)
unfolding seen
met t r e = by (leb 1 (width t)) refl e
  where
    it : Seen
    it = sight (width t) (parts (scalar (take (width t) t))) (devanagari (scalar (take (width t) t)))

    by : (x : Bool) → leb 1 (width t) ≡ x → Some r ≡ pick x (Some it) None → (r ≡ it) × (1 ≤ width t)
    by true f g = (same_Some r it g, leb-true 1 (width t) f)
    by false f g = absurd (none-some r (sym g))

unmet : (t : List ℕ) → None ≡ seen t → width t ≡ 0
unfolding seen
unmet t e = by (leb 1 (width t)) refl e
  where
    by : (x : Bool) → leb 1 (width t) ≡ x → None ≡ pick x (Some (sight (width t) (parts (scalar (take (width t) t))) (devanagari (scalar (take (width t) t))))) None → width t ≡ 0
    by true f g = absurd (none-some _ g)
    by false f g = let k = leb-false 1 (width t) f in omega arith

drop_one : (n b : ℕ) (s : List ℕ) → 1 ≤ n → drop (n - 1) s ≡ drop n (b ∷ s)
drop_one zero b s h = absurd (omega arith)
drop_one (suc n) b s h = let e : suc n - 1 ≡ n = omega arith in rw e

chars_front : (t : List ℕ) → 1 ≤ width t → chars_from 0 t ≡ char (width t) (parts (scalar (take (width t) t))) (devanagari (scalar (take (width t) t))) (chars_from 0 (drop (width t) t))
unfolding width
chars_front [] h = absurd (omega arith)
chars_front (b ∷ s) h = rw (← drop_one (width (b ∷ s)) b s h) (chars-one b s (λ z. omega arith))

utf8_front : (t : List ℕ) → 1 ≤ width t → is_utf8 t ≡ is_utf8 (drop (width t) t)
unfolding width
utf8_front [] h = absurd (omega arith)
utf8_front (b ∷ s) h = rw (← drop_one (width (b ∷ s)) b s h) (front-some b s (λ z. omega arith))

module _ (t : List ℕ) (r : Seen) (e : Some r ≡ seen t) where
  chars_met : chars_from 0 t ≡ char r.size r.parting r.deva (chars_from 0 (drop r.size t))
  chars_met = let m = met t r e in rw m.0 (chars_front t m.1)

  utf8_met : is_utf8 t ≡ is_utf8 (drop r.size t)
  utf8_met = let m = met t r e in rw m.0 (utf8_front t m.1)

chars_unmet : (t : List ℕ) → None ≡ seen t → 0 < length t → chars_from 0 t ≡ broken
chars_unmet [] e h = absurd (omega arith)
chars_unmet (b ∷ s) e h = chars-none b s (unmet (b ∷ s) e)

utf8_unmet : (t : List ℕ) → None ≡ seen t → 0 < length t → is_utf8 t ≡ false
utf8_unmet [] e h = absurd (omega arith)
utf8_unmet (b ∷ s) e h = front-none b s (unmet (b ∷ s) e)

pub chars-end : (s : List ℕ) (at : ℕ) → length s ≤ at → chars_from 0 (drop at s) ≡ finished
unfolding chars_from
chars-end s at h = rw (drop_of_length-le s h)

pub utf8_end : (s : List ℕ) (at : ℕ) → length s ≤ at → is_utf8 (drop at s) ≡ true
unfolding is_utf8 run
utf8_end s at h = rw (drop_of_length-le s h)

-- what a character makes of the tokens to come
pub scan-parts : (start at : ℕ) (held : Bool) (cs rest : Chars) (n : ℕ) (p d : Bool) → cs ≡ char n p d rest → p ≡ true
    → scan start at held cs ≡ kept held start at (scan (at + n) (at + n) false rest)
unfolding scan
scan-parts start at held cs rest n p d e t = rw (e, t)

pub scan_goes : (start at : ℕ) (held : Bool) (cs rest : Chars) (n : ℕ) (p d : Bool) → cs ≡ char n p d rest → p ≡ false
    → scan start at held cs ≡ scan start (at + n) (held || d) rest
unfolding scan
scan_goes start at held cs rest n p d e t = rw (e, t)

pub scan-broken : (start at : ℕ) (held : Bool) (cs : Chars) → cs ≡ broken → scan start at held cs ≡ []
unfolding scan
scan-broken start at held cs e = rw e

pub scan-end : (start at : ℕ) (held : Bool) (cs : Chars) → cs ≡ finished → scan start at held cs ≡ kept held start at []
unfolding scan
scan-end start at held cs e = rw e

-- a run has ended: it is not held; it is, and there is no room; or there is
pub ended_plain : (old : List ℕ) (n a e : ℕ) (held : Bool) → held ≡ false → Ended old old n n held a e
ended_plain old n a e held h = record { storing = λ ts. rw h; counting = λ ts. rw h; few = omega arith }

put_full : (old : List ℕ) (n : ℕ) (t : Span) → length old ≤ 2 * n + 1 → put old n t ≡ old
unfolding put
put_full old n t h = rw (le-ltb (2 * n + 1) (length old) h)

pub put-room : (old : List ℕ) (n : ℕ) (t : Span) → 2 * n + 1 < length old → put old n t ≡ set (set old (2 * n) t.start) (2 * n + 1) t.end
unfolding put
put-room old n t h = rw (lt-ltb (2 * n + 1) (length old) h)

ended_held : (old new : List ℕ) (n a e : ℕ) (held : Bool) → held ≡ true → put old n (span a e) ≡ new → Ended old new n (n + 1) held a e
unfolding stored
ended_held old new n a e held h p =
    record { storing = λ ts. rw h (ap (λ (x : List ℕ). stored x (n + 1) ts) (sym p)); counting = λ ts. rw h (omega arith); few = omega arith }

pub ended_full : (old : List ℕ) (n a e : ℕ) (held : Bool) → held ≡ true → length old ≤ 2 * n + 1 → Ended old old n (n + 1) held a e
ended_full old n a e held h l = ended_held old old n a e held h (put_full old n (span a e) l)

pub ended_room : (old : List ℕ) (n a e : ℕ) (held : Bool) → held ≡ true → 2 * n + 1 < length old → Ended old (set (set old (2 * n) a) (2 * n + 1) e) n (n + 1) held a e
ended_room old n a e held h l = ended_held old _ n a e held h (put-room old n (span a e) l)

-- the pass has come to byte `at`: what it will have done with what is to come is what it is to do
pub record Going (s old list : List ℕ) (at start : ℕ) (held : Bool) (n : ℕ) : Type 0 where
  pub whole8 : is_utf8 s ≡ is_utf8 (drop at s)
  pub counted : n + length (scan start at held (chars_from 0 (drop at s))) ≡ length (tokens_of s)
  pub kept8 : stored list n (scan start at held (chars_from 0 (drop at s))) ≡ stored old 0 (tokens_of s)

pub going_start : (s old : List ℕ) → Going s old old 0 0 false 0
unfolding tokens_of
going_start s old = record { whole8 = refl; counted = zero-add _; kept8 = refl }

module _ {s old list : List ℕ} {at start n : ℕ} {held : Bool} (g : Going s old list at start held n) where
  module _ (r : Seen) (e : Some r ≡ seen (drop at s)) where
    rest_is : drop r.size (drop at s) ≡ drop (at + r.size) s
    rest_is = drop-drop r.size at s

    chars_on : chars_from 0 (drop at s) ≡ char r.size r.parting r.deva (chars_from 0 (drop (at + r.size) s))
    chars_on = chars_met (drop at s) r e ∙ ap (λ (x : List ℕ). char r.size r.parting r.deva (chars_from 0 x)) rest_is

    whole_on : is_utf8 s ≡ is_utf8 (drop (at + r.size) s)
    whole_on = g.whole8 ∙ utf8_met (drop at s) r e ∙ ap is_utf8 rest_is

    pub going_parts : {new : List ℕ} {m : ℕ} → r.parting ≡ true → Ended list new n m held start at → Going s old new (at + r.size) (at + r.size) false m
    going_parts t d =
        let q = scan-parts start at held _ _ _ _ _ chars_on t in
        record {
          whole8 = whole_on;
          counted = d.counting _ ∙ sym (ap (λ (x : List Span). n + length x) q) ∙ g.counted;
          kept8 = d.storing _ ∙ sym (ap (stored list n) q) ∙ g.kept8;
        }

    pub going_on : (b : Bool) → r.parting ≡ false → b ≡ (held || r.deva) → Going s old list (at + r.size) start b n
    going_on b t f =
        let q = scan_goes start at held _ _ _ _ _ chars_on t in
        record {
          whole8 = whole_on;
          counted = rw f (sym (ap (λ (x : List Span). n + length x) q) ∙ g.counted);
          kept8 = rw f (sym (ap (stored list n) q) ∙ g.kept8);
        }

  pub going_broken : at < length s → None ≡ seen (drop at s)
      → (None ≡ counted s) × (list ≡ stored old 0 (tokens_of s))
  unfolding counted stored
  going_broken h e =
      let l : 0 < length (drop at s) = simp length-drop (omega arith) in
      let q = scan-broken start at held _ (chars_unmet (drop at s) e l) in
      let w : is_utf8 s ≡ false = g.whole8 ∙ utf8_unmet (drop at s) e l in
      (rw w, sym (ap (stored list n) q) ∙ g.kept8)

  pub going_end : {new : List ℕ} {m : ℕ} → length s ≤ at → Ended list new n m held start at
      → (Some m ≡ counted s) × (new ≡ stored old 0 (tokens_of s))
  unfolding counted stored
  going_end {new} {m} h d =
      let q = scan-end start at held _ (chars-end s at h) in
      let w : is_utf8 s ≡ true = g.whole8 ∙ utf8_end s at h in
      let k : m ≡ length (tokens_of s) = sym (add-zero m) ∙ d.counting [] ∙ sym (ap (λ (x : List Span). n + length x) q) ∙ g.counted in
      (rw (w, k), d.storing [] ∙ sym (ap (stored list n) q) ∙ g.kept8)
