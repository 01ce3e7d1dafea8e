-- The letters of a `w` line (document 01, "The sheet"), read in their order: w contained, h headword, v verb, p pronoun,
-- e its entry spells [root+ई], then one of t b d a, the origin tag. Assumes nothing.
use Rattle.std.specs.Prelude.{ℕ, Bool, false, not, ◌&&◌, ◌||◌, List, [], ◌∷◌, drop, Option, Some, None, is_some}
use Rattle.runs.specs.Runs.{pick, begins_with, same_text}
use Rattle.tables.specs.declared.origins.Origin.{Origin}
use Rattle.tables.specs.declared.origins.Origin.TheVariants.{Tatsam, Tadbhav, Deshaj, Aagantuk}
use Rattle.sheet.specs.declared.letters.Letters.{Letters}

-- the letter c stands at the front
abbrev pub has : ℕ → List ℕ → Bool
has c s = begins_with (c ∷ []) s

-- what follows the letter c, or all of s where c does not stand at its front
abbrev pub past : ℕ → List ℕ → List ℕ
past c s = pick (has c s) (drop 1 s) s

-- the tag that stands at the front: t, b, d or a
unfoldable pub tag_of : List ℕ → Option Origin
tag_of s =
    pick (has 0x74 s) (Some Tatsam)
    (pick (has 0x62 s) (Some Tadbhav)
    (pick (has 0x64 s) (Some Deshaj)
    (pick (has 0x61 s) (Some Aagantuk)
    None)))

abbrev pub is_tagged : Option Origin → Bool
is_tagged tag = is_some tag

-- what is left of s after w, h, v, p and e, each where it stands next
abbrev pub after_flags : List ℕ → List ℕ
after_flags s = past 0x65 (past 0x70 (past 0x76 (past 0x68 (past 0x77 s))))

-- the letters that s spells
unfoldable pub letters_of : List ℕ → Letters
letters_of s = record {
  word = has 0x77 s;
  head = has 0x68 (past 0x77 s);
  verb = has 0x76 (past 0x68 (past 0x77 s));
  pronoun = has 0x70 (past 0x76 (past 0x68 (past 0x77 s)));
  spelled = has 0x65 (past 0x70 (past 0x76 (past 0x68 (past 0x77 s))));
  tag = tag_of (after_flags s);
}

-- the sheet knows the name: by w or by h
abbrev pub is_known : Letters → Bool
is_known l = l.word || l.head

-- at least w or h; every other letter needs h, and e needs p
unfoldable pub well_kept : Letters → Bool
well_kept l =
    (l.word || l.head)
    && (l.head || not (l.verb || l.pronoun || l.spelled || is_tagged l.tag))
    && (l.pronoun || not l.spelled)

-- nothing is left but a tag
abbrev pub closes : List ℕ → Bool
closes s = same_text (pick (is_tagged (tag_of s)) (drop 1 s) s) []

-- s is a good run of letters: nothing is left once each has been read in its order, and the needs are met
unfoldable pub is_letters : List ℕ → Bool
is_letters s = closes (after_flags s) && well_kept (letters_of s)

-- the letters of a string without a line: none
abbrev pub no_letters : Letters
no_letters = record { word = false; head = false; verb = false; pronoun = false; spelled = false; tag = None }
