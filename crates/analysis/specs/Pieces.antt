-- What a strip makes of a piece that the walk is at. Assumes nothing.
use Rattle.std.specs.Prelude.{ℕ, ◌≡◌}
use Rattle.ranking.specs.declared.Segment.{Segment}
use Rattle.paths.specs.Chains.{rows_after}
use Rattle.paths.specs.Walk.{pushed_of}
use Rattle.paths.specs.Weighed.{times_after}
use Rattle.analysis.specs.declared.piece.Piece.{Piece}

-- of the same word and sheet, with the same number for the surface, the piece that ends at `end`, with the suffix s stripped behind it
pub record Stripped (at : Piece) (end : ℕ) (s : Segment) (p : Piece) : Type 0 where
  pub same : p.asked.now ≡ at.asked.now
  pub counted : p.surface ≡ at.surface
  pub ends : p.end ≡ end
  pub chained : p.chain ≡ pushed_of at.chain s
  pub follows : p.rows ≡ rows_after s.label
  pub led : p.times ≡ times_after at.times s.label
