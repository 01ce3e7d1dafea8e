-- `find::supported_infinitive` meets its contract: an empty stem and one that ends in ् have none, a link line decides alone. Assumes nothing.
use mathlib.Core.Path.{sym, subst, ◌∙◌}
use Rattle.std.specs.Prelude.{Some, None}
use Rattle.lookup.specs.Answers.{text_at}
use Rattle.progressive.specs.Progressive.{Lemma}
use Rattle.progressive.specs.Found.{LemmaAt}
use Rattle.progressive.proofs.Verbs.{no-lemma, empty_stem, bare-stem, by_reply}
use Rattle.progressive.proofs.find.supported_infinitive.Goals as goal
use Rattle.progressive.proofs.find.supported_infinitive.Goals.{then-is_empty-via-then-is_empty, then-is_empty-via-else-is_empty+then-ends_with}

pub returns-then-is_empty : goal.returns-then-is_empty
returns-then-is_empty c =
    let s = c.args.sheet.now.bytes.now in
    let l = c.args.linked.now in
    let t = c.args.stem.now in
    elim c.then-is_empty.branch [
      | then-is_empty-via-then-is_empty w ↦ no-lemma s _ (empty_stem s l t (sym c.is_empty.ensures ∙ w.if-is_empty.true))
      | then-is_empty-via-else-is_empty+then-ends_with w ↦ no-lemma s _ (bare-stem s l t (sym c.is_empty.ensures ∙ w.if-is_empty.false) (sym w.ends_with.ensures ∙ w.if-ends_with.true))
    ]

pub returns-in-Some : goal.returns-in-Some
returns-in-Some c =
    let s = c.args.sheet.now.bytes.now in
    let a = rw c.in-Some.is at c.link_of.ensures in
    let e = by_reply s c.args.linked.now c.args.stem.now (sym c.is_empty.ensures ∙ c.if-is_empty.false) (text_at s (Some c.in-Some.link)) a.reads (sym c.ends_with.ensures ∙ c.if-ends_with.false) in
    subst (λ (m : Lemma). LemmaAt s m c.linked_verb.result) (sym e) c.linked_verb.ensures

pub returns-in-None : goal.returns-in-None
returns-in-None c =
    let s = c.args.sheet.now.bytes.now in
    let a = rw c.in-None.is at c.link_of.ensures in
    let e = by_reply s c.args.linked.now c.args.stem.now (sym c.is_empty.ensures ∙ c.if-is_empty.false) (text_at s None) a.reads (sym c.ends_with.ensures ∙ c.if-ends_with.false) in
    subst (λ (m : Lemma). LemmaAt s m c.regular_lemma.result) (sym e) c.regular_lemma.ensures
