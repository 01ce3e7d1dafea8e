-- `find::regular_lemma` meets its contract: the names are asked in their order, and the first verb is given. Assumes nothing.
use mathlib.Core.Path.{◌≡◌, sym, ◌∙◌, subst}
use mathlib.Core.List.{◌++◌}
use Rattle.progressive.specs.Progressive.{letter_u, Lemma, verb_or, regular}
use Rattle.sheet.specs.Forms.{syllable_nu}
use Rattle.sheet.specs.Replies.{reply}
use Rattle.progressive.specs.Found.{LemmaAt}
use Rattle.progressive.proofs.Verbs.{last, after_closed, after_open, open_found, open_next, closed_found, closed_next, without_vowel, with_vowel, verb-first, verb_next}
use Rattle.progressive.proofs.find.regular_lemma.Goals as goal
use Rattle.progressive.proofs.find.regular_lemma.Lts.View.{up-Else-is_some}
use Rattle.progressive.proofs.find.regular_lemma.Goals.{Else-is_some-2, Else-not-ends_in_aa, Else-is_some}

-- stem+नु is no verb
opened : (c : Else-is_some) →
    let a = c.args in
    regular (reply a.sheet.now.bytes.now) a.linked.now a.stem.now ≡ after_open a.sheet.now.bytes.now a.linked.now a.stem.now
opened c =
    let a = c.args in
    open_next a.sheet.now.bytes.now a.linked.now a.stem.now _ c.verb_at-open.ensures (sym c.is_some.ensures ∙ c.if-is_some.false)

-- nor is stem+्नु
shut : (c : Else-is_some-2) →
    let a = c.args in
    regular (reply a.sheet.now.bytes.now) a.linked.now a.stem.now ≡ after_closed a.sheet.now.bytes.now a.linked.now a.stem.now
shut c =
    let a = c.args in
    opened (up-Else-is_some _ _ _ c.before.before.before.before.before.before.before) ∙ closed_next a.sheet.now.bytes.now a.linked.now a.stem.now _ c.verb_at-closed.ensures (sym c.is_some-2.ensures ∙ c.if-is_some-2.false)

-- the stem ends in ा or आ
vowels : (c : Else-not-ends_in_aa) →
    let a = c.args in
    after_closed a.sheet.now.bytes.now a.linked.now a.stem.now
    ≡ verb_or (reply a.sheet.now.bytes.now) (a.stem.now ++ (letter_u ++ syllable_nu)) (last a.sheet.now.bytes.now a.linked.now a.stem.now)
vowels c =
    let a = c.args in
    with_vowel a.sheet.now.bytes.now a.linked.now a.stem.now (sym c.ends_in_aa.ensures ∙ c.if-not-ends_in_aa.false)

pub returns-then-is_some : goal.returns-then-is_some
returns-then-is_some c =
    let a = c.args in
    open_found a.sheet.now.bytes.now a.linked.now a.stem.now _ c.verb_at-open.ensures (sym c.is_some.ensures ∙ c.if-is_some.true)

pub returns-then-is_some-2 : goal.returns-then-is_some-2
returns-then-is_some-2 c =
    let a = c.args in
    let s = a.sheet.now.bytes.now in
    subst (λ (l : Lemma). LemmaAt s l c.verb_at-closed.result) (sym (opened (goal.at.returns-then-is_some-2 c).Else-is_some)) (closed_found s a.linked.now a.stem.now _ c.verb_at-closed.ensures (sym c.is_some-2.ensures ∙ c.if-is_some-2.true))

pub returns-then-not-ends_in_aa : goal.returns-then-not-ends_in_aa
returns-then-not-ends_in_aa c =
    let a = c.args in
    let s = a.sheet.now.bytes.now in
    let e = without_vowel s a.linked.now a.stem.now (sym c.ends_in_aa.ensures ∙ c.if-not-ends_in_aa.true) in
    subst (λ (l : Lemma). LemmaAt s l c.verb_at.result) (sym (shut (goal.at.returns-then-not-ends_in_aa c).Else-is_some-2 ∙ e)) c.verb_at.ensures

pub returns-then-is_some-3 : goal.returns-then-is_some-3
returns-then-is_some-3 c =
    let a = c.args in
    let s = a.sheet.now.bytes.now in
    let r = c.verb_at-vowel.result in
    subst (λ (l : Lemma). LemmaAt s l r) (sym (shut (goal.at.returns-then-is_some-3 c).Else-is_some-2 ∙ vowels (goal.at.returns-then-is_some-3 c).Else-not-ends_in_aa)) (verb-first s r _ (last s a.linked.now a.stem.now) c.verb_at-vowel.ensures (sym c.is_some-3.ensures ∙ c.if-is_some-3.true))

pub returns : goal.returns
returns c =
    let a = c.args in
    let s = a.sheet.now.bytes.now in
    let e = verb_next s c.verb_at-vowel.result _ (last s a.linked.now a.stem.now) c.verb_at-vowel.ensures (sym c.is_some-3.ensures ∙ c.if-is_some-3.false) in
    subst (λ (l : Lemma). LemmaAt s l c.verb_at-2.result) (sym (shut (goal.at.returns c).Else-is_some-2 ∙ vowels (goal.at.returns c).Else-not-ends_in_aa ∙ e)) c.verb_at-2.ensures
