-- The confidence of every decision is an f32, so that its bits give it back. Assumes nothing.
use Prim.Native.Nat.{ℕ}
use mathlib.Core.Bool.{Bool, true, false}
use lib.Dec.{T, eqb}
use mathlib.Core.List.{List}
use lib.ListN.{length}
use lib.Ieee.{Float, binary32, fits}
use lib.Ieee.Bits.{of_bits-fits}
use Rattle.runs.specs.Runs.{pick}
use Rattle.tables.specs.Origins.{origin_of}
use Rattle.tables.specs.declared.origins.Origin.{Origin}
use Rattle.tables.specs.declared.origins.Origin.TheVariants.{Tatsam, Tadbhav, Deshaj, Aagantuk}
use Rattle.std.proofs.Common.{Option, Some, None}
use Rattle.sheet.specs.Replies.{Ask}
use Rattle.origin.specs.Marks.{heuristic_of}
use Rattle.origin.specs.Decisions.{by_word, by_stem, no_evidence, known_by, known_stem, or_by_table, or_by_kosha, by_marks, decision_of}
use Rattle.origin.specs.declared.OriginDecision.{OriginDecision}
use Rattle.origin.specs.declared.kosha.Known.{Known}
use Rattle.origin.specs.declared.kosha.Known.TheVariants.{Tagged, Headword}

abbrev Sure : OriginDecision → Type 0
Sure d = T (fits binary32 d.confidence)

picked : (b : Bool) (d : OriginDecision) → Sure d → Sure (pick b no_evidence d)
picked true d h = of_bits-fits binary32 0x00000000
picked false d h = h

by_table : (f : Option Origin) (d : OriginDecision) → Sure d → Sure (or_by_table f d)
by_table (Some o) d h = of_bits-fits binary32 0x3F800000
by_table None d h = h

by_kosha : (f : Float) (k : Option Known) (d : OriginDecision) → T (fits binary32 f) → Sure d → Sure (or_by_kosha f k d)
by_kosha f (Some (Tagged o)) d s h = s
by_kosha f (Some Headword) d s h = of_bits-fits binary32 0x00000000
by_kosha f None d s h = h

by-mark : (o : Origin) → Sure (by_marks o)
by-mark Deshaj = of_bits-fits binary32 0x00000000
by-mark Tatsam = of_bits-fits binary32 0x3F266666
by-mark Tadbhav = of_bits-fits binary32 0x3F266666
by-mark Aagantuk = of_bits-fits binary32 0x3F266666

pub decision-fits : (ask : Ask) (w : List ℕ) → T (fits binary32 (decision_of ask w).confidence)
unfolding decision_of
decision-fits ask w =
    picked (eqb (length w) 0) _
    (by_table (origin_of w) _
    (by_kosha by_word (known_by ask w) _ (of_bits-fits binary32 0x3F733333)
    (by_kosha by_stem (known_stem ask w) _ (of_bits-fits binary32 0x3F666666) (by-mark (heuristic_of w)))))
