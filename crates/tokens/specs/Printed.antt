-- What the program prints for a text: (list N) and a line (t START END) for each token, or the line of the refusal. Assumes nothing.
use Rattle.refusals.specs.declared.Refusal.{Refusal}
use Rattle.std.specs.Prelude.{ℕ, List, [], ◌∷◌, ◌++◌, length, Err, Ok, Result}
use Rattle.refusals.specs.Refusals.{numbers_of}
use Rattle.writing.specs.Decimal.{decimal}
use Rattle.writing.specs.Refused.{refused_text}
use Rattle.tokenizer.specs.Tokens.{Span}
use Rattle.tokenizer.specs.Scanned.{tokens_of}
use Rattle.tokenizer.specs.Answers.{tokenized}

-- (t START END) and 0A
unfoldable pub token_line : ℕ → ℕ → List ℕ
token_line start end = (0x28 ∷ 0x74 ∷ 0x20 ∷ []) ++ (decimal start ++ ((0x20 ∷ []) ++ (decimal end ++ (0x29 ∷ 0x0A ∷ []))))

unfoldable pub token_lines : List Span → List ℕ
token_lines [] = []
token_lines (t ∷ ts) = token_line t.start t.end ++ token_lines ts

-- (list N), 0A and the lines
unfoldable pub tokens_text : List Span → List ℕ
tokens_text ts = (0x28 ∷ 0x6C ∷ 0x69 ∷ 0x73 ∷ 0x74 ∷ 0x20 ∷ []) ++ (decimal (length ts) ++ ((0x29 ∷ 0x0A ∷ []) ++ token_lines ts))

abbrev pub printed_by : Result ℕ Refusal → List Span → List ℕ
printed_by (Ok n) ts = tokens_text ts
printed_by (Err r) ts = refused_text (numbers_of r)

-- what is printed for the text s, whose tokens the program has a list of 32,768 numbers for
unfoldable pub printed : List ℕ → List ℕ
printed s = printed_by (tokenized s 32768) (tokens_of s)
