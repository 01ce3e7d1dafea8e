-- What each return of the entries says, and what the list holds: nothing of it is written where anything is refused, and where all fit the
-- tokens stand in front of its old numbers. The proofs of `tokenize` and `tokenize_in` cite these. Assumes nothing.
use Rattle.std.specs.Prelude.{Err, Ok, Option, Result}
use Rattle.std.specs.Option.{ok_or}
use Rattle.refusals.specs.declared.Refusal.{Refusal}
use Prim.Native.Nat.{ℕ, suc, ◌+◌, ◌*◌, ◌≤◌, ◌<◌}
use native.Mathlib.Omega.{arith}
use mathlib.Core.Path.{◌≡◌, refl, sym, ap, subst, ◌∙◌}
use mathlib.Core.Bool.{Bool, true, false}
use Rattle.runs.specs.Runs.{pick}
use Rattle.std.proofs.lemmas.Option.{none-some, same_Some}
use Rattle.std.specs.declared.option.Option.TheVariants.{Some, None}
use mathlib.Core.List.{List, [], ◌∷◌, ◌++◌, append_assoc}
use lib.ListN.{length, take, drop, set, length-set, take-append-drop}
use lib.Seq.{take-suc-set, drop-set-lt, take_at}
use lib.Dec.{ltb}
use borrow.Author.Tests.{lt-ltb, le-ltb, ltb-true, ltb-false}
use Rattle.text.specs.Utf8.{is_utf8}
use Rattle.tokenizer.specs.Tokens.{Span}
use Rattle.tokenizer.specs.Scanned.{tokens_of}
use Rattle.tokenizer.specs.Answers.{text_limit, tokenized, pairs, listed}
use Rattle.tokenizer.specs.Stored.{stored, passed, counted, pass_of}
use Rattle.refusals.specs.Refusals.{output_by}
use Rattle.refusals.specs.declared.Refusal.TheVariants.{TextTooLong, TextNotUtf8, ListTooShort}
use Rattle.tokenizer.proofs.Turns.{put-room}

-- two numbers stored at a place of a list
module _ (old : List ℕ) (i a e : ℕ) (h : i + 1 < length old) where
  two_front : take (i + 2) (set (set old i a) (i + 1) e) ≡ take i old ++ (a ∷ e ∷ [])
  two_front =
      let p : i + 2 ≡ suc (i + 1) = omega arith in
      let q : i + 1 ≡ suc i = omega arith in
      let l : i + 1 < length (set old i a) = simp length-set h in
      ap (λ (x : ℕ). take x (set (set old i a) (i + 1) e)) p ∙ take-suc-set (set old i a) (i + 1) e l
      ∙ ap (λ (x : List ℕ). x ++ (e ∷ [])) (ap (λ (x : ℕ). take x (set old i a)) q ∙ take-suc-set old i a (omega arith))
      ∙ append_assoc (take i old) (a ∷ []) (e ∷ [])

  two_back : (n : ℕ) → i + 1 < n → drop n (set (set old i a) (i + 1) e) ≡ drop n old
  two_back n k = drop-set-lt n (set old i a) (i + 1) e k ∙ drop-set-lt n old i a (omega arith)

pub pairs-length : (ts : List Span) → length (pairs ts) ≡ 2 * length ts
unfolding pairs
pairs-length [] = refl
pairs-length (t ∷ ts) = let k = pairs-length ts in omega arith

-- tokens that all fit stand one after the other
stored-fits : (ts : List Span) (old : List ℕ) (k : ℕ) → 2 * k + 2 * length ts ≤ length old → stored old k ts ≡ take (2 * k) old ++ (pairs ts ++ drop (2 * k + 2 * length ts) old)
unfolding stored pairs
stored-fits [] old k h = let p : 2 * k + 0 ≡ 2 * k = omega arith in rw p (sym (take-append-drop (2 * k) old))
stored-fits (t ∷ ts) old k h =
    let new = set (set old (2 * k) t.start) (2 * k + 1) t.end in
    let l : length new ≡ length old = simp (length-set) in
    let p : 2 * (k + 1) ≡ 2 * k + 2 = omega arith in
    let q : 2 * (k + 1) + 2 * length ts ≡ 2 * k + 2 * suc (length ts) = omega arith in
    ap (λ (x : List ℕ). stored x (k + 1) ts) (put-room old k t (omega arith))
    ∙ stored-fits ts new (k + 1) (omega arith)
    ∙ ap (λ (x : ℕ). take x new ++ (pairs ts ++ drop (2 * (k + 1) + 2 * length ts) new)) p
    ∙ ap (λ (x : List ℕ). x ++ (pairs ts ++ drop (2 * (k + 1) + 2 * length ts) new)) (two_front old (2 * k) t.start t.end (omega arith))
    ∙ append_assoc (take (2 * k) old) (t.start ∷ t.end ∷ []) (pairs ts ++ drop (2 * (k + 1) + 2 * length ts) new)
    ∙ ap (λ (x : List ℕ). take (2 * k) old ++ (t.start ∷ t.end ∷ (pairs ts ++ x)))
    (two_back old (2 * k) t.start t.end (omega arith) (2 * (k + 1) + 2 * length ts) (omega arith) ∙ ap (λ (x : ℕ). drop x old) q)

pub stored_all : (ts : List Span) (old : List ℕ) → 2 * length ts ≤ length old → stored old 0 ts ≡ pairs ts ++ drop (2 * length ts) old
stored_all ts old h =
    let p : 0 + 2 * length ts ≡ 2 * length ts = omega arith in
    stored-fits ts old 0 (omega arith) ∙ ap (λ (x : ℕ). pairs ts ++ drop x old) p

module _ (s old : List ℕ) where
  left_by_lem : (t : Result ℕ Refusal) → t ≡ tokenized s (length old) → output_by t (pairs (tokens_of s)) old ≡ listed s old
  unfolding listed
  left_by_lem t e = ap (λ (x : Result ℕ Refusal). output_by x (pairs (tokens_of s)) old) e

  said_long : text_limit < length s → Err TextTooLong ≡ tokenized s (length old)
  unfolding tokenized
  said_long h = rw (lt-ltb text_limit (length s) h)

  module _ (h : length s ≤ text_limit) where
    other_said : None ≡ counted s → is_utf8 s ≡ false
    unfolding counted
    other_said e = by (is_utf8 s) refl e
      where
        by : (x : Bool) → is_utf8 s ≡ x → None ≡ pick x (Some (length (tokens_of s))) None → x ≡ false
        by true f g = absurd (none-some _ g)
        by false f g = refl

    said_other : None ≡ counted s → Err TextNotUtf8 ≡ tokenized s (length old)
    unfolding tokenized
    said_other e = rw (le-ltb text_limit (length s) h, other_said e)

    module _ (n : ℕ) (c : Some n ≡ counted s) where
      all_said : (is_utf8 s ≡ true) × (n ≡ length (tokens_of s))
      unfolding counted
      all_said = by (is_utf8 s) refl c
        where
          by : (x : Bool) → is_utf8 s ≡ x → Some n ≡ pick x (Some (length (tokens_of s))) None → (x ≡ true) × (n ≡ length (tokens_of s))
          by true f g = (refl, same_Some n _ g)
          by false f g = absurd (none-some n (sym g))

      pub said_short : length old < 2 * n → Err ListTooShort ≡ tokenized s (length old)
      unfolding tokenized
      said_short k = rw (le-ltb text_limit (length s) h, all_said.0, ← all_said.1, lt-ltb (length old) (2 * n) k)

      pub short : length old < 2 * n → (Err ListTooShort ≡ tokenized s (length old)) × (old ≡ listed s old)
      short k = (said_short k, left_by_lem (Err ListTooShort) (said_short k))

      pub said_all : 2 * n ≤ length old → Ok n ≡ tokenized s (length old)
      unfolding tokenized
      said_all k = rw (le-ltb text_limit (length s) h, all_said.0, ← all_said.1, le-ltb (length old) (2 * n) k)

      pub all : {new : List ℕ} → 2 * n ≤ length old → new ≡ stored old 0 (tokens_of s) → (Ok n ≡ tokenized s (length old)) × (new ≡ listed s old)
      all k e =
          (said_all k, e ∙ stored_all (tokens_of s) old (rw all_said.1 at k) ∙ ap (λ (x : ℕ). pairs (tokens_of s) ++ drop x old) (sym (pairs-length (tokens_of s))) ∙ left_by_lem (Ok n) (said_all k))

      -- the first pass kept them all
      pub all_copied : (own : List ℕ) {kept new : List ℕ} → 2 * n ≤ length old → 2 * n ≤ length own → kept ≡ stored own 0 (tokens_of s) → new ≡ take (2 * n) kept
          → (Ok n ≡ tokenized s (length old)) × (new ++ drop (2 * n) old ≡ listed s old)
      all_copied own {kept} {new} k m f e =
          let l : length (pairs (tokens_of s)) ≡ 2 * n = pairs-length (tokens_of s) ∙ ap (λ (x : ℕ). 2 * x) (sym all_said.1) in
          let t : take (2 * n) kept ≡ pairs (tokens_of s) = ap (take (2 * n)) (f ∙ stored_all (tokens_of s) own (rw all_said.1 at m)) ∙ take_at (pairs (tokens_of s)) _ (2 * n) l in
          (said_all k, ap (λ (x : List ℕ). x ++ drop (2 * n) old) (e ∙ t) ∙ ap (λ (x : ℕ). pairs (tokens_of s) ++ drop x old) (sym l) ∙ left_by_lem (Ok n) (said_all k))

-- what the pass leaves and says
module _ (s old : List ℕ) where
  pub long_left : text_limit < length s → old ≡ passed s old
  unfolding passed
  long_left h = rw (lt-ltb text_limit (length s) h)

  pub walked_left : length s ≤ text_limit → {new : List ℕ} → new ≡ stored old 0 (tokens_of s) → new ≡ passed s old
  unfolding passed
  walked_left h e = rw (le-ltb text_limit (length s) h) e

  pub walked_back : length s ≤ text_limit → {new : List ℕ} → new ≡ passed s old → new ≡ stored old 0 (tokens_of s)
  unfolding passed
  walked_back h e = rw (le-ltb text_limit (length s) h) at e

  pub long_said : text_limit < length s → Err TextTooLong ≡ pass_of s
  unfolding pass_of
  long_said h = rw (lt-ltb text_limit (length s) h)

  pub walked_said : length s ≤ text_limit → {r : Result ℕ Refusal} → r ≡ ok_or (counted s) TextNotUtf8 → r ≡ pass_of s
  unfolding pass_of
  walked_said h e = rw (le-ltb text_limit (length s) h) e

  -- what it refuses is refused, and what it counts are the tokens
  abbrev Passed : Result ℕ Refusal → Type 0
  Passed (Err f) = Err f ≡ tokenized s (length old)
  Passed (Ok n) = (length s ≤ text_limit) × (Some n ≡ counted s)

  pub pass_told : (r : Result ℕ Refusal) → r ≡ pass_of s → Passed r
  unfolding pass_of
  pass_told r e = subst Passed (sym e) (by (ltb text_limit (length s)) (counted s) refl refl)
    where
      by : (b : Bool) (o : Option ℕ) → ltb text_limit (length s) ≡ b → counted s ≡ o → Passed (pick b (Err TextTooLong) (ok_or o TextNotUtf8))
      by true o p q = said_long s old (ltb-true _ _ p)
      by false None p q = said_other s old (ltb-false _ _ p) (sym q)
      by false (Some n) p q = (ltb-false _ _ p, sym q)

  pub refused : {f : Refusal} → Err f ≡ pass_of s → (Err f ≡ tokenized s (length old)) × (old ≡ listed s old)
  refused {f} e = let t = pass_told (Err f) e in (t, left_by_lem s old (Err f) t)

-- too long a text is told so by the pass
pub pass_long : (s : List ℕ) → ltb text_limit (length s) ≡ true → pass_of s ≡ Err TextTooLong
unfolding pass_of
pass_long s e = ap (λ (b : Bool). pick b (Err TextTooLong) (ok_or (counted s) TextNotUtf8)) e
