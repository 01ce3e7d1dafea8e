-- `find::linked_verb` meets its contract: the infinitive of a line is asked alone. Assumes nothing.
use mathlib.Core.Path.{refl, subst}
use Rattle.progressive.specs.Progressive.{Lemma}
use Rattle.progressive.specs.Found.{LemmaAt}
use Rattle.progressive.proofs.Verbs.{told-verb}
use Rattle.progressive.proofs.find.linked_verb.Goals as goal

pub returns : goal.returns
returns c =
    let a = c.args in
    subst (λ (m : Lemma). LemmaAt a.sheet.now.bytes.now m c.verb_at.result) (told-verb a.sheet.now.bytes.now _ a.link refl) c.verb_at.ensures
