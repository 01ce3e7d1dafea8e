-- What is promised of the tokens of a text (document 02 (a)): every token is listed and nothing besides, in text order, no two
-- overlapping, so that the list is empty exactly where there is none; no other list does so; a list of 32,768 numbers is always enough;
-- what is refused leaves the list as it was. Assumes nothing.
use Rattle.std.specs.Prelude.{Err, Ok}
use Prim.Native.Nat.{ℕ, zero, suc, ◌+◌, ◌*◌, ◌≤◌, ◌<◌}
use native.Mathlib.Omega.{arith}
use mathlib.Core.Path.{◌≡◌, refl, sym, ap, subst, ◌∙◌}
use mathlib.Core.Logic.{◌⊎◌, inl, inr, ◌↔◌}
use mathlib.Core.Bool.{Bool, true, false, not}
use mathlib.Core.List.Memᴰ
use mathlib.Core.List.{List, [], ◌∷◌, ◌++◌, Memᴰ}
use lib.ListN.{length, get_or, drop, length-append}
use lib.Dec.{ltb}
use borrow.Author.Tests.{ltb-true, ltb-false, le-ltb}
use Rattle.runs.specs.Runs.{pick}
use Rattle.text.specs.Utf8.{is_utf8}
use Rattle.tokenizer.specs.Scalars.{Character, bytes}
use Rattle.tokenizer.specs.Tokens.{Each, Token, Span, span, InOrder}
use Rattle.tokenizer.specs.Scanned.{chars_from, scan, tokens_of}
use Rattle.tokenizer.specs.Answers.{text_limit, tokenized, pairs, listed}
use Rattle.tokenizer.specs.Stored.{passed}
use Rattle.refusals.specs.declared.Refusal.{Refusal}
use Rattle.refusals.specs.declared.Refusal.TheVariants.{TextTooLong, TextNotUtf8, ListTooShort}
use Rattle.tokenizer.proofs.Parsed.{read_all, told, told_all, one_way}
use Rattle.tokenizer.proofs.Edges.{total, has-total, Edged, sound_edges, complete_edges}
use Rattle.tokenizer.proofs.Longest.{whole, whole_each, whole-bytes, token_edged, edged_token}
use Rattle.tokenizer.proofs.Ordered.{in_order_lem, few, same_members}
use Rattle.tokenizer.proofs.Answered.{stored_all, pairs-length}

-- a token of any text lies in it, and has a byte at least
token_inside : {s : List ℕ} {a e : ℕ} → Token s a e → (a < e) × (e ≤ length s)
token_inside {s} {a} {e} t =
    let r = t.run in
    let n : length s ≡ total r.front + (total r.inner + total r.back) =
    ap length r.text ∙ length-append (bytes r.front) (bytes r.inner ++ bytes r.back) ∙ ap (λ (x : ℕ). total r.front + x) (length-append (bytes r.inner) (bytes r.back)) in
    let b = has-total r.inner t.held.0 r.characters.1 t.held.1 in
    (omega (arith, r.ends), omega (arith, r.starts, r.ends))

module _ (s : List ℕ) (u : is_utf8 s ≡ true) where
  abbrev cs : List (List ℕ)
  cs = (read_all s u).0

  abbrev cs_each : Each Character cs
  cs_each = (read_all s u).1

  abbrev cs_bytes : s ≡ bytes cs
  cs_bytes = (read_all s u).2

  as_told : tokens_of s ≡ scan 0 0 false (told cs)
  unfolding tokens_of
  as_told = ap (scan 0 0 false) (ap (chars_from 0) cs_bytes ∙ told_all cs cs_each)

  -- every token is listed
  pub reported : (a e : ℕ) → Token s a e → Memᴰ (span a e) (tokens_of s)
  reported a e t =
      let q : whole t.run ≡ cs = one_way (whole t.run) cs (whole_each t.run) cs_each (sym (whole-bytes t.run) ∙ cs_bytes) in
      subst (λ (x : List Span). Memᴰ (span a e) x) (sym as_told) (complete_edges cs a e (subst (λ (x : List (List ℕ)). Edged x a e) q (token_edged t)))

  -- and nothing besides
  pub nothing_besides : (a e : ℕ) → Memᴰ (span a e) (tokens_of s) → Token s a e
  nothing_besides a e m =
      subst (λ (x : List ℕ). Token x a e) (sym cs_bytes)
      (edged_token cs cs_each (sound_edges cs (span a e) (subst (λ (x : List Span). Memᴰ (span a e) x) as_told m)))

  -- in text order, and no two overlap
  pub ascending : InOrder 0 (tokens_of s)
  ascending = subst (InOrder 0) (sym as_told) (in_order_lem cs cs_each)

  -- the list is empty exactly where there is no token
  first_of : (ts : List Span) → ((a e : ℕ) → Memᴰ (span a e) ts → ⊥) → ts ≡ []
  first_of [] f = refl
  first_of (t ∷ ts) f = absurd (f t.start t.end (Memᴰ.head refl))

  pub empty_where_none : (tokens_of s ≡ []) ↔ ((a e : ℕ) → Token s a e → ⊥)
  empty_where_none =
      (λ q a e t. Memᴰ.not-nil (subst (λ (x : List Span). Memᴰ (span a e) x) q (reported a e t)), λ f. first_of (tokens_of s) (λ a e m. f a e (nothing_besides a e m)))

  -- no other list does so
  pub no_other : (ts : List Span) → InOrder 0 ts → ((a e : ℕ) → Token s a e → Memᴰ (span a e) ts) → ((a e : ℕ) → Memᴰ (span a e) ts → Token s a e) → ts ≡ tokens_of s
  no_other ts o f g =
      same_members ts (tokens_of s) 0 0 o ascending (λ t m. reported t.start t.end (g t.start t.end m)) (λ t m. f t.start t.end (nothing_besides t.start t.end m))

  -- a token has three bytes or more, and a byte stands between two
  pub at_most : 4 * length (tokens_of s) ≤ length s + 1
  at_most = rw as_told (subst (λ (x : List ℕ). 4 * length (scan 0 0 false (told cs)) ≤ length x + 1) (sym cs_bytes) (few cs cs_each))

  -- a token lies in the text and is not empty
  pub inside : (a e : ℕ) → Memᴰ (span a e) (tokens_of s) → (a < e) × (e ≤ length s)
  inside a e m = token_inside (nothing_besides a e m)

-- so 16,384 tokens, 32,768 numbers, are always enough
pub enough : (s : List ℕ) (room : ℕ) → 32768 ≤ room → tokenized s room ≡ Err ListTooShort → ⊥
unfolding tokenized
enough s room h e = by (ltb text_limit (length s)) (is_utf8 s) (ltb room (2 * length (tokens_of s))) refl refl refl e
  where
    by : (x y z : Bool) → ltb text_limit (length s) ≡ x → is_utf8 s ≡ y → ltb room (2 * length (tokens_of s)) ≡ z
        → pick x (Err TextTooLong) (pick (not y) (Err TextNotUtf8) (pick z (Err ListTooShort) (Ok (length (tokens_of s))))) ≡ Err ListTooShort → ⊥
    by true y z p q r e = let d : ◌≡◌ {A = ℕ} 0 1 = cc in omega arith
    by false false z p q r e = let d : ◌≡◌ {A = ℕ} 0 1 = cc in omega arith
    by false true true p q r e =
        let l = ltb-false text_limit (length s) p in
        let m = ltb-true room (2 * length (tokens_of s)) r in
        let k = at_most s q in
        omega arith
    by false true false p q r e = let d : ◌≡◌ {A = ℕ} 0 1 = cc in omega arith

-- a refusal leaves the list as it was
pub refused-left : (s old : List ℕ) (r : Refusal) → tokenized s (length old) ≡ Err r → listed s old ≡ old
unfolding listed
refused-left s old r e = rw e

-- where the tokens are listed: how many there are, that there is room, and what the list holds
pub all_listed : (s : List ℕ) (room n : ℕ) → tokenized s room ≡ Ok n → (n ≡ length (tokens_of s)) × (2 * n ≤ room) × (is_utf8 s ≡ true) × (length s ≤ text_limit)
unfolding tokenized
all_listed s room n e = by (ltb text_limit (length s)) (is_utf8 s) (ltb room (2 * length (tokens_of s))) refl refl refl e
  where
    by : (x y z : Bool) → ltb text_limit (length s) ≡ x → is_utf8 s ≡ y → ltb room (2 * length (tokens_of s)) ≡ z
        → pick x (Err TextTooLong) (pick (not y) (Err TextNotUtf8) (pick z (Err ListTooShort) (Ok (length (tokens_of s))))) ≡ Ok n
        → (n ≡ length (tokens_of s)) × (2 * n ≤ room) × (is_utf8 s ≡ true) × (length s ≤ text_limit)
    by true y z p q r e = let d : ◌≡◌ {A = ℕ} 0 1 = cc in absurd (omega arith)
    by false false z p q r e = let d : ◌≡◌ {A = ℕ} 0 1 = cc in absurd (omega arith)
    by false true true p q r e = let d : ◌≡◌ {A = ℕ} 0 1 = cc in absurd (omega arith)
    by false true false p q r e =
        let c : n ≡ length (tokens_of s) = cc in
        let k = ltb-false room (2 * length (tokens_of s)) r in
        let l = ltb-false text_limit (length s) p in
        (c, omega arith, q, l)

-- there are at most 16,384
pub listed-few : (s : List ℕ) (room n : ℕ) → tokenized s room ≡ Ok n → n ≤ 16384
listed-few s room n e = let k = all_listed s room n e in let m = at_most s k.2 in omega (arith, k.0, k.3)

-- no other refusal is given
pub only_three : (s : List ℕ) (room : ℕ) (r : Refusal) → tokenized s room ≡ Err r → (r ≡ TextTooLong) ⊎ ((r ≡ TextNotUtf8) ⊎ (r ≡ ListTooShort))
unfolding tokenized
only_three s room r e = by (ltb text_limit (length s)) (is_utf8 s) (ltb room (2 * length (tokens_of s))) e
  where
    by : (x y z : Bool) → pick x (Err TextTooLong) (pick (not y) (Err TextNotUtf8) (pick z (Err ListTooShort) (Ok (length (tokens_of s))))) ≡ Err r
        → (r ≡ TextTooLong) ⊎ ((r ≡ TextNotUtf8) ⊎ (r ≡ ListTooShort))
    by true y z e = inl cc
    by false false z e = inr (inl cc)
    by false true true e = inr (inr cc)
    by false true false e = let d : ◌≡◌ {A = ℕ} 0 1 = cc in absurd (omega arith)

module _ (s old : List ℕ) (n : ℕ) (e : tokenized s (length old) ≡ Ok n) where
  pub listed_all : (is_utf8 s ≡ true) × (n ≡ length (tokens_of s)) × (listed s old ≡ pairs (tokens_of s) ++ drop (2 * n) old)
  unfolding listed
  listed_all =
      let k = all_listed s (length old) n e in
      let l : length (pairs (tokens_of s)) ≡ 2 * n = pairs-length (tokens_of s) ∙ ap (λ (x : ℕ). 2 * x) (sym k.0) in
      (k.2, k.0, rw e (ap (λ (x : ℕ). pairs (tokens_of s) ++ drop x old) l))

  -- the list of the one pass is then the same
  pub passed-listed : passed s old ≡ listed s old
  unfolding passed
  passed-listed =
      let k = all_listed s (length old) n e in
      rw (le-ltb text_limit (length s) k.3)
      (stored_all (tokens_of s) old (subst (λ (x : ℕ). 2 * x ≤ length old) k.0 k.1) ∙ ap (λ (x : ℕ). pairs (tokens_of s) ++ drop (2 * x) old) (sym k.0) ∙ sym listed_all.2)

-- start and end of token number i, wherever the list goes on
pub pair_of : (ts : List Span) (rest : List ℕ) (i : ℕ) (d : Span) → i < length ts
    → (get_or (pairs ts ++ rest) (2 * i) 0 ≡ (get_or ts i d).start) × (get_or (pairs ts ++ rest) (2 * i + 1) 0 ≡ (get_or ts i d).end)
unfolding pairs
pair_of [] rest i d h = absurd (omega arith)
pair_of (t ∷ ts) rest zero d h = (refl, refl)
pair_of (t ∷ ts) rest (suc i) d h =
    let k = pair_of ts rest i d (omega arith) in
    let p : 2 * suc i ≡ suc (suc (2 * i)) = omega arith in
    let q : 2 * suc i + 1 ≡ suc (suc (2 * i + 1)) = omega arith in
    (rw p k.0, rw q k.1)

-- and in the lent list
pub token_at : (s old : List ℕ) (n : ℕ) → tokenized s (length old) ≡ Ok n → (i : ℕ) (d : Span) → i < n
    → (get_or (listed s old) (2 * i) 0 ≡ (get_or (tokens_of s) i d).start) × (get_or (listed s old) (2 * i + 1) 0 ≡ (get_or (tokens_of s) i d).end)
token_at s old n e i d h =
    let k = listed_all s old n e in
    let p = pair_of (tokens_of s) (drop (2 * n) old) i d (omega (arith, k.1)) in
    (ap (λ (x : List ℕ). get_or x (2 * i) 0) k.2 ∙ p.0, ap (λ (x : List ℕ). get_or x (2 * i + 1) 0) k.2 ∙ p.1)
