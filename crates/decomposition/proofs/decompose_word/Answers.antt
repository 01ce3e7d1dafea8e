-- `decompose_word` meets its contract. Assumes nothing.
use mathlib.Core.Path.{◌≡◌, ap}
use Rattle.tables.specs.declared.origins.Origin.{Origin}
use Rattle.origin.specs.declared.OriginDecision.{OriginDecision}
use Rattle.decomposition.specs.declared.Parts.{Parts}
use Rattle.decomposition.specs.declared.Morpheme.{Morpheme}
use Rattle.decomposition.specs.Parts.{morpheme_of}
use Rattle.decomposition.proofs.decompose_word.Goals as goal

same_morpheme : {p q : Parts} {o u : Origin} → p ≡ q → o ≡ u → ◌≡◌ {A = Morpheme} (record { parts = p; origin = o }) (record { parts = q; origin = u })
same_morpheme e f = cc

pub returns : goal.returns
unfolding morpheme_of
returns c = same_morpheme c.decomposed-parts.ensures (ap (λ (d : OriginDecision). d.origin) c.decide_origin-decision.ensures)
