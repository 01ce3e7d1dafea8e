-- What a list of numbers holds after tokens were written to it one by one, as many as there is room for: what the pass over a text
-- leaves, for every text and every list. Assumes nothing.
use Rattle.std.specs.Prelude.{ℕ, ◌+◌, ◌*◌, ◌≤◌, ◌≡◌, Bool, List, [], ◌∷◌, Option, Some, None, Result, Err, length, set, ltb}
use Rattle.std.specs.Option.{ok_or}
use Rattle.refusals.specs.declared.Refusal.{Refusal}
use Rattle.refusals.specs.declared.Refusal.TheVariants.{TextTooLong, TextNotUtf8}
use Rattle.runs.specs.Runs.{pick}
use Rattle.text.specs.Utf8.{is_utf8}
use Rattle.tokenizer.specs.Tokens.{Span}
use Rattle.tokenizer.specs.Scanned.{kept, tokens_of}
use Rattle.tokenizer.specs.Answers.{text_limit}

-- the list with token number k stored, where there is room for it
unfoldable pub put : List ℕ → ℕ → Span → List ℕ
put old k t = pick (ltb (2 * k + 1) (length old)) (set (set old (2 * k) t.start) (2 * k + 1) t.end) old

-- the list with these tokens stored, from number k on
unfoldable pub stored : List ℕ → ℕ → List Span → List ℕ
stored old k [] = old
stored old k (t ∷ ts) = stored (put old k t) (k + 1) ts

-- what a list of the caller's own holds after the pass over s; a text that is too long is not looked at
unfoldable pub passed : List ℕ → List ℕ → List ℕ
passed s old = pick (ltb text_limit (length s)) old (stored old 0 (tokens_of s))

-- how many tokens s has, where it is UTF-8
unfoldable pub counted : List ℕ → Option ℕ
counted s = pick (is_utf8 s) (Some (length (tokens_of s))) None

-- what the pass over s says: that it is too long or not UTF-8, else how many tokens there are
unfoldable pub pass_of : List ℕ → Result ℕ Refusal
pass_of s = pick (ltb text_limit (length s)) (Err TextTooLong) (ok_or (counted s) TextNotUtf8)

-- a run from byte a up to byte e has ended after n tokens: it is stored where it is held, and m tokens are counted then
pub record Ended (old new : List ℕ) (n m : ℕ) (held : Bool) (a e : ℕ) : Type 0 where
  pub storing : (ts : List Span) → stored new m ts ≡ stored old n (kept held a e ts)
  pub counting : (ts : List Span) → m + length ts ≡ n + length (kept held a e ts)
  pub few : m ≤ n + 1
