-- `analysis::entry::keep_readings` meets its contract: the walk begins with the whole word. Assumes nothing.
use Rattle.std.proofs.Common.{◌≡◌, ℕ, List, [], ◌∷◌, length, take, eqb, ap, sym, ◌∙◌, arith, rules}
use lib.Seq.{take-length}
use Rattle.runs.specs.Runs.{pick}
use Rattle.sheet.specs.Replies.{Ask, reply}
use Rattle.progressive.specs.Progressive.{is_progressive}
use Rattle.ranking.specs.Lists.{Rows, plus_all}
use Rattle.ranking.specs.declared.Segment.{Segment}
use Rattle.ranking.specs.Stored.{no_segment}
use Rattle.paths.specs.Chains.{all_rows, most_strips}
use Rattle.paths.specs.Walk.{empty_chain, piece_walk, word_walk}
use Rattle.paths.specs.Weighed.{weighed}
use Rattle.text.proofs.Scan.{chars_most}
use Rattle.analysis.proofs.Visited.{word_visits}
use Rattle.analysis.proofs.Accepted.{word-parts}
use Rattle.analysis.proofs.entry.keep_readings.Goals as goal

pub overflow_cast-asked : goal.overflow_cast-asked
overflow_cast-asked c =
    let n = word-parts c.args.word.now c.requires in
    omega (arith, c.count.ensures, chars_most c.args.word.now, n.0)

pub invariant_of-asked : goal.invariant_of-asked
invariant_of-asked c = record {
  short = (word-parts c.args.word.now c.requires).0;
  counted = c.count.ensures;
}

-- a word of at most 192 bytes has at most as many characters
pub invariant_of-whole : goal.invariant_of-whole
invariant_of-whole c = record {
  any = omega (arith, c.count.ensures, chars_most c.args.word.now, (word-parts c.args.word.now c.requires).0);
  inside = search rules;
  few = search rules;
  table = search rules;
  twice = search rules;
  told = c.has_supported_progressive_form.ensures ∙ ap (is_progressive (reply c.args.sheet.now.bytes.now)) (sym (take-length c.args.word.now));
}

-- the chain that the walk begins with
begun : (w : List ℕ) (a : Rows) (ask : Ask) (surface : ℕ) (s : Segment) → s ≡ no_segment
    → plus_all w a (piece_walk most_strips ask surface (record { segments = s ∷ s ∷ s ∷ s ∷ []; count = 0 }) all_rows (take (length w) w))
    ≡ plus_all w a (word_walk ask surface w)
begun w a ask surface s e =
    ap (λ (x : Segment). plus_all w a (piece_walk most_strips ask surface (record { segments = x ∷ x ∷ x ∷ x ∷ []; count = 0 }) all_rows (take (length w) w))) e
    ∙ ap (λ (x : List ℕ). plus_all w a (piece_walk most_strips ask surface empty_chain all_rows x)) (take-length w)

pub returns : goal.returns
returns c =
    let a = c.args in
    let ask = reply a.sheet.now.bytes.now in (
      c.visit-visits.ensures.0
          ∙ begun a.word.now a.kept.now ask c.count.result _ c.blank.ensures
          ∙ ap (λ (k : ℕ). plus_all a.word.now a.kept.now (word_walk ask k a.word.now)) c.count.ensures,
      c.unless_empty.ensures
          ∙ ap (λ (n : ℕ). pick (eqb (length a.word.now) 0) 0 n) (c.visit-visits.ensures.1 ∙ ap (weighed 4 ask 25 1) (take-length a.word.now))
          ∙ word_visits ask a.word.now,
    )
