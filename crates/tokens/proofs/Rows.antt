-- Lines of a list that holds starts and ends, one after the other: one turn, the end, and that they are the tokens' lines; and how long
-- they are. The proofs of lines.rt cite these. Assumes nothing.
use Rattle.std.specs.Prelude.{Err, Ok, Result}
use Prim.Native.Nat.{ℕ, ◌*◌, ◌/◌, ◌≤◌, ◌<◌}
use native.Mathlib.Omega.{arith}
use mathlib.Core.Path.{◌≡◌, refl, sym, ap, subst, ◌∙◌}
use mathlib.Core.Logic.{◌⊎◌, inl, inr}
use mathlib.Core.List.{List, [], ◌∷◌, ◌++◌, Memᴰ}
use lib.ListN.{length, take, drop, get_or, length-append}
use lib.Seq.{take_at}
use Rattle.refusals.specs.declared.Refusal.{Refusal}
use Rattle.refusals.specs.declared.Refusal.TheVariants.{TextTooLong, TextNotUtf8, ListTooShort}
use Rattle.refusals.specs.Refusals.{numbers_of}
use Rattle.writing.specs.Refused.{refused_text}
use Rattle.writing.proofs.Sizes.{count-size, number_size}
use Rattle.tokenizer.specs.Tokens.{Span}
use Rattle.tokenizer.specs.Scanned.{tokens_of}
use Rattle.tokenizer.specs.Answers.{pairs, tokenized, listed}
use Rattle.tokenizer.proofs.Answered.{pairs-length}
use Rattle.tokenizer.proofs.Promises.{all_listed, listed-few, inside, listed_all, only_three}
use Rattle.tokens.specs.Printed.{token_line, token_lines, tokens_text, printed_by, printed}
use Rattle.tokens.specs.Lines.{lines_of, list_text}

pub lines_turn : (list : List ℕ) → 2 ≤ length list → lines_of list ≡ token_line (get_or list 0 0) (get_or list 1 0) ++ lines_of (drop 2 list)
unfolding lines_of
lines_turn [] h = absurd (omega arith)
lines_turn (a ∷ []) h = absurd (omega arith)
lines_turn (a ∷ e ∷ rest) h = refl

pub lines_end : (list : List ℕ) → length list < 2 → lines_of list ≡ []
unfolding lines_of
lines_end [] h = refl
lines_end (a ∷ []) h = refl
lines_end (a ∷ e ∷ rest) h = absurd (omega arith)

lines-pairs : (ts : List Span) → lines_of (pairs ts) ≡ token_lines ts
unfolding lines_of pairs token_lines
lines-pairs [] = refl
lines-pairs (t ∷ ts) = ap (λ (x : List ℕ). token_line t.start t.end ++ x) (lines-pairs ts)

list-text : (ts : List Span) → list_text (pairs ts) ≡ tokens_text ts
unfolding list_text tokens_text
list-text ts = let n : length (pairs ts) / 2 ≡ length ts = omega (arith, pairs-length ts) in rw (n, lines-pairs ts)

-- what is printed: the tokens' lines, or the refusal's
pub printed_list : (s old list : List ℕ) (n : ℕ) → length old ≡ 32768 → Ok n ≡ tokenized s (length old) → list ≡ listed s old → list_text (take (2 * n) list) ≡ printed s
unfolding printed
printed_list s old list n l e f =
    let k = listed_all s old n (sym e) in
    let w : tokenized s 32768 ≡ Ok n = ap (tokenized s) (sym l) ∙ sym e in
    let p : length (pairs (tokens_of s)) ≡ 2 * n = omega (arith, pairs-length (tokens_of s), k.1) in
    ap list_text (ap (take (2 * n)) (f ∙ k.2) ∙ take_at (pairs (tokens_of s)) (drop (2 * n) old) (2 * n) p) ∙ list-text (tokens_of s)
    ∙ sym (ap (λ (x : Result ℕ Refusal). printed_by x (tokens_of s)) w)

pub printed_refused : (s : List ℕ) (room : ℕ) (r : Refusal) → room ≡ 32768 → Err r ≡ tokenized s room → refused_text (numbers_of r) ≡ printed s
unfolding printed
printed_refused s room r l e = ap (λ (x : Result ℕ Refusal). printed_by x (tokens_of s)) (e ∙ ap (tokenized s) l)

-- how long it is: 16 bytes for each token at most, and 13 before them
line-size : (a e : ℕ) → a < 100000 → e < 100000 → length (token_line a e) ≤ 16
unfolding token_line
line-size a e h k =
    let p = number_size a h in
    let q = number_size e k in
    simp length-append (omega arith)

lines-size : (ts : List Span) → ((t : Span) → Memᴰ t ts → (t.start < 100000) × (t.end < 100000)) → length (token_lines ts) ≤ 16 * length ts
unfolding token_lines
lines-size [] f = omega arith
lines-size (t ∷ ts) f =
    let k = f t (Memᴰ.head refl) in
    let p = line-size t.start t.end k.0 k.1 in
    let q = lines-size ts (λ u m. f u (Memᴰ.tail m)) in
    simp length-append (omega arith)

text-size : (ts : List Span) → length ts ≤ 16384 → ((t : Span) → Memᴰ t ts → (t.start < 100000) × (t.end < 100000)) → length (tokens_text ts) ≤ 262157
unfolding tokens_text
text-size ts h f =
    let p = number_size (length ts) (omega arith) in
    let q = lines-size ts f in
    simp length-append (omega arith)

line-short : (n : ℕ) → n < 100 → length (refused_text (n ∷ [])) ≤ 262157
unfolding refused_text
line-short n h = let p = count-size n h in simp length-append (omega arith)

by_answer : (s : List ℕ) (w : Result ℕ Refusal) → tokenized s 32768 ≡ w → length (printed_by w (tokens_of s)) ≤ 262157
by_answer s (Ok n) e =
    let k = all_listed s 32768 n e in
    text-size (tokens_of s) (omega (arith, listed-few s 32768 n e, k.0))
    (λ t m. let i = inside s k.2 t.start t.end m in (omega (arith, k.3), omega (arith, k.3)))
by_answer s (Err r) e = one_of (only_three s 32768 r e)
  where
    one_of : (r ≡ TextTooLong) ⊎ ((r ≡ TextNotUtf8) ⊎ (r ≡ ListTooShort)) → length (refused_text (numbers_of r)) ≤ 262157
    one_of (inl q) = subst (λ (x : Refusal). length (refused_text (numbers_of x)) ≤ 262157) (sym q) (line-short 9 (omega arith))
    one_of (inr (inl q)) = subst (λ (x : Refusal). length (refused_text (numbers_of x)) ≤ 262157) (sym q) (line-short 2 (omega arith))
    one_of (inr (inr q)) = subst (λ (x : Refusal). length (refused_text (numbers_of x)) ≤ 262157) (sym q) (line-short 10 (omega arith))

pub printed-size : (s : List ℕ) → length (printed s) ≤ 262157
unfolding printed
printed-size s = by_answer s (tokenized s 32768) refl
