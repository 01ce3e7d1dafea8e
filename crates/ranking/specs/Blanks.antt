-- What stands in the cells of a list that no row is in. Assumes nothing.
use Rattle.std.specs.Prelude.{[], ◌∷◌}
use Rattle.tables.specs.declared.origins.Origin.TheVariants.{Tatsam}
use Rattle.origin.specs.Decisions.{none}
use Rattle.origin.specs.declared.OriginSource.TheVariants.{Override}
use Rattle.ranking.specs.declared.Reading.{Reading}
use Rattle.ranking.specs.declared.Classified.{Classified}
use Rattle.ranking.specs.Stored.{no_segment}

-- no reading: each number is 0
abbrev pub blank_reading : Reading
blank_reading = record {
  stem = 0;
  root = 0;
  score = 0;
  prefixes = 0 ∷ 0 ∷ [];
  segments = no_segment ∷ no_segment ∷ no_segment ∷ no_segment ∷ [];
  prefix_count = 0;
  suffix_count = 0;
}

abbrev pub blank_classified : Classified
blank_classified = record { reading = blank_reading; origin = Tatsam; source = Override; confidence = none }
