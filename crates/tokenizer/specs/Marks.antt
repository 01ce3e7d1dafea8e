-- The characters from U+2000 to U+203F that part. Assumes nothing.
use Rattle.std.specs.Prelude.{List, [], ◌∷◌}
use Rattle.text.specs.Utf8.{Range, from_to}
use Rattle.tokenizer.specs.Parting.{one}

abbrev pub general : List Range
general = from_to 0x2000 0x200A ∷ from_to 0x2013 0x2014 ∷ from_to 0x2018 0x2019 ∷ from_to 0x201C 0x201D ∷ one 0x2026 ∷ from_to 0x2028 0x2029 ∷ one 0x202F ∷ []
