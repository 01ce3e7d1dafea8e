-- What the entries give (document 02 (a)): 9, text over 65,536 bytes, first; then 2, not UTF-8; 10, list too short, last; else how many
-- tokens there are; and what the lent list holds then. Assumes nothing.
use Rattle.refusals.specs.declared.Refusal.{Refusal}
use Rattle.std.specs.Prelude.{ℕ, ◌*◌, not, List, [], ◌∷◌, length, ltb, Err, Ok, Result}
use Rattle.runs.specs.Runs.{pick}
use Rattle.refusals.specs.Refusals.{output_by}
use Rattle.refusals.specs.declared.Refusal.TheVariants.{TextTooLong, TextNotUtf8, ListTooShort}
use Rattle.text.specs.Utf8.{is_utf8}
use Rattle.tokenizer.specs.Tokens.{Span}
use Rattle.tokenizer.specs.Scanned.{tokens_of}

-- the most bytes that a text has
abbrev pub text_limit : ℕ
text_limit = 65536

-- what is given for the text s and a list of so many numbers, two for each token
unfoldable pub tokenized : List ℕ → ℕ → Result ℕ Refusal
tokenized s room =
    pick (ltb text_limit (length s)) (Err TextTooLong)
    (pick (not (is_utf8 s)) (Err TextNotUtf8)
    (pick (ltb room (2 * length (tokens_of s))) (Err ListTooShort)
    (Ok (length (tokens_of s)))))

-- start and end of each token, one after the other
unfoldable pub pairs : List Span → List ℕ
pairs [] = []
pairs (t ∷ ts) = t.start ∷ t.end ∷ pairs ts

-- what the list holds then: the pairs and its old numbers behind them, or its old numbers alone
unfoldable pub listed : List ℕ → List ℕ → List ℕ
listed s old = output_by (tokenized s (length old)) (pairs (tokens_of s)) old
