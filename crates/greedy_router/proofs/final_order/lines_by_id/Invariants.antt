use Rattle.std.proofs.Common.{◌≡◌, ◌+◌, ◌++◌, List, length}
use Rattle.greedy_column.specs.Tracks.{ids, line_of}
use Rattle.greedy_column.specs.declared.column.Track.{Track}
use Rattle.greedy_router.specs.Tables.{Tells}
use Rattle.greedy_router.proofs.final_order.lines_by_id.Given as goal

abbrev pub invariant-loop-track : goal.invariant-loop-track
invariant-loop-track l = record {
  told : (above : List Track) × (l.tracks ≡ l.rest ++ above) × Tells l.lines.items (λ id. length l.rest + line_of (ids above) id);
  long : length l.lines.items ≡ l.room;
}

abbrev pub decreases-loop-track : goal.decreases-loop-track
decreases-loop-track l = length l.rest
