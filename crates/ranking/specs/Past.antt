-- What stands past the end of a list. Assumes nothing.
use Rattle.std.specs.Prelude.{[]}
use Rattle.ranking.specs.Lists.{with_origin}
use Rattle.ranking.specs.declared.Reading.{Reading}
use Rattle.ranking.specs.declared.Classified.{Classified}
use Rattle.tables.specs.declared.origins.Origin.TheVariants.{Tatsam}
use Rattle.origin.specs.declared.OriginSource.TheVariants.{Override}
use Rattle.origin.specs.Decisions.{decided}
use Rattle.std.specs.Float.{nan}

-- what stands past the end of a list of readings
abbrev pub no_reading : Reading
no_reading = record { stem = 0; root = 0; score = 0; prefixes = []; segments = []; prefix_count = 0; suffix_count = 0 }

-- and past the end of a list of readings with their roots' origins
abbrev pub no_row : Classified
no_row = with_origin no_reading (decided Tatsam Override nan)
