-- The worked cases, proved together: for every case of the list the number, the count and the list's later contents are those that stand beside it.
-- Assumes nothing.
use mathlib.Core.Path.{◌≡◌, refl}
use mathlib.Core.List.{map}
use lib.ListN.{length}
use Rattle.text.specs.Utf8.{within, utf8_char, opened, after, run, is_utf8}
use Rattle.tokenizer.specs.Scalars.{scalar}
use Rattle.tokenizer.specs.Parting.{among, white_space, punctuation, parts, devanagari}
use Rattle.tokenizer.specs.Scanned.{fits, width, chars_from, scan, tokens_of}
use Rattle.tokenizer.specs.Answers.{tokenized, pairs, listed}
use Rattle.tokenizer.specs.Cases.{Case, case, number_of, count_of, cases}

unfoldable pub asked : Case → Case
asked c =
    let t = tokenized c.text (length c.list) in
    case c.text c.list (number_of t) (count_of t) (listed c.text c.list)

pub worked : map asked cases ≡ cases
unfolding asked within utf8_char opened after run is_utf8 scalar among white_space punctuation parts devanagari fits width chars_from scan tokens_of tokenized pairs listed cases
worked = refl
