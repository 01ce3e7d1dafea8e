-- What stands in the cells of a list that no candidate is in. Assumes nothing.
use Rattle.std.specs.Prelude.{None, false, replicate}
use Rattle.tables.specs.declared.origins.Origin.TheVariants.{Tatsam}
use Rattle.roots.specs.declared.RootCandidate.{RootCandidate}

abbrev pub blank_candidate : RootCandidate
blank_candidate = record {
  score = 0;
  parts = record { start = 0; end = 0; prefix = None; suffix_count = 0; suffixes = replicate 24 0 };
  origin = Tatsam;
  known_word = false;
  known_headword = false;
}
