use Rattle.std.proofs.Common.{◌≡◌, ◌+◌, length}
use Rattle.cif_writer.specs.FeedHeights.{height_place}
use Rattle.cif_writer.proofs.rows.height_place.Given as goal

abbrev pub invariant-loop-first : goal.invariant-loop-first
invariant-loop-first l = record {
  place : l.place + height_place l.rest l.height ≡ height_place l.heights l.height;
  count : l.place + length l.rest ≡ length l.heights;
}

abbrev pub decreases-loop-first : goal.decreases-loop-first
decreases-loop-first l = length l.rest
