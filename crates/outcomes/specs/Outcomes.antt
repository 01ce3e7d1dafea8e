-- What is asked in document 01's worked cases, and how an outcome is said there: by texts, labels and kinds. Assumes nothing.
use Rattle.std.specs.Prelude.{ℕ, Bool, List, [], map, take, get_or, Err, Ok, Result, Option, Some, None}
use Rattle.tables.specs.Rows.{prefix_labels, suffixes}
use Rattle.tables.specs.Tables.{affixes}
use Rattle.ranking.specs.Parts.{part}
use Rattle.ranking.specs.Rank.{root_text}
use Rattle.ranking.specs.declared.AffixKind.{AffixKind}
use Rattle.ranking.specs.declared.Segment.{Segment}
use Rattle.ranking.specs.declared.Classified.{Classified}
use Rattle.origin.specs.Decisions.{decided}
use Rattle.origin.specs.declared.OriginDecision.{OriginDecision}
use Rattle.progressive.specs.Answers.{answer_of, answer_numbers, lemma_part}
use Rattle.analysis.specs.Answers.{said_of, rows_given, said_numbers}
use Rattle.refusals.specs.Refusals.{numbers_of}
use Rattle.decomposition.specs.declared.Morpheme.{Morpheme}
use Rattle.progressive.specs.declared.find.Progressive.{Progressive}
use Rattle.refusals.specs.declared.Refusal.{Refusal}
use Rattle.decomposition.specs.Parts.{prefixes_of}
use Rattle.decomposition.specs.Answers.{morpheme_answer}
use Rattle.listing.specs.Printed.{printed}

-- what is asked: what the program prints for an input; of a word and a sheet, its readings, its progressive form, or its decomposition
pub data Question : Type 0 where
  prints : List ℕ → Question
  readings : List ℕ → List ℕ → Question
  progressive : List ℕ → List ℕ → Question
  decompose : List ℕ → List ℕ → Question

-- a suffix: its label, its kind, and whether its first letter is shared
pub record Suffix : Type 0 where
  pub label : List ℕ
  pub kind : AffixKind
  pub is_shared : Bool

-- a row of the list: stem, root, prefix labels, label, kind and mark of each suffix, score, and the root's origin, source and confidence
pub record Row : Type 0 where
  pub stem : List ℕ
  pub root : List ℕ
  pub prefixes : List (List ℕ)
  pub suffixes : List Suffix
  pub score : ℕ
  pub decision : OriginDecision

-- an outcome: the text printed; the rows of the list; a progressive form, by its main form, whether it is negative, and its lemma; no progressive
-- form; a decomposition, by its root, prefix labels and suffix labels; or a refusal by its numbers
pub data Outcome : Type 0 where
  text : List ℕ → Outcome
  list : List Row → Outcome
  form : List ℕ → Bool → List ℕ → Outcome
  no_form : Outcome
  parts : List ℕ → List (List ℕ) → List (List ℕ) → Outcome
  refused : List ℕ → Outcome

abbrev pub suffix_of : Segment → Suffix
suffix_of s = record { label = get_or affixes s.label []; kind = s.kind; is_shared = s.shared }

abbrev pub label_of : ℕ → List ℕ
label_of row = get_or prefix_labels row []

-- a reading of w, with its root's origin, as a row
abbrev pub row_of : List ℕ → Classified → Row
row_of w r = record {
  stem = part w 0 r.reading.stem;
  root = root_text w r.reading;
  prefixes = map label_of (take r.reading.prefix_count r.reading.prefixes);
  suffixes = map suffix_of (take r.reading.suffix_count r.reading.segments);
  score = r.reading.score;
  decision = decided r.origin r.source r.confidence;
}

-- what the core call says and gives of the word w
abbrev pub list_of : List ℕ → Result (Unit {0}) Refusal → List Classified → Outcome
list_of w (Ok _) rs = list (map (row_of w) rs)
list_of w (Err r) rs = refused (said_numbers (Err r))

-- what the analysis of a progressive form gives of the word w and the sheet s
abbrev pub form_of : List ℕ → List ℕ → Result (Option Progressive) Refusal → Outcome
form_of w s (Err r) = refused (answer_numbers (Err r))
form_of w s (Ok None) = no_form
form_of w s (Ok (Some p)) = form (part w 0 p.main_end) p.negative (lemma_part s (Ok (Some p)))

-- what decompose gives of the word w
abbrev pub parts_of : List ℕ → Result Morpheme Refusal → Outcome
parts_of w (Ok m) =
    let p = m.parts in
    parts (part w p.start p.end) (map label_of (prefixes_of p.prefix)) (map (λ (k : ℕ). get_or suffixes k []) (take p.suffix_count p.suffixes))
parts_of w (Err r) = refused (numbers_of r)

-- the outcome of a question
abbrev pub outcome_of : Question → Outcome
outcome_of (prints input) = text (printed input)
outcome_of (readings w s) = list_of w (said_of w s) (rows_given w s)
outcome_of (progressive w s) = form_of w s (answer_of w s)
outcome_of (decompose w s) = parts_of w (morpheme_answer w s)
