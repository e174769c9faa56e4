use Rattle.std.proofs.Common.{◌≡◌, ◌+◌, length}
use Rattle.greedy_column.specs.Tracks.{ids}
use Rattle.greedy_router.specs.Tables.{AreRounds, HasAll}
use Rattle.greedy_router.proofs.WayLaws.{IsOnWay}
use Rattle.greedy_router.proofs.wiring.wire_columns.Given as goal

abbrev pub invariant-loop-done : goal.invariant-loop-done
invariant-loop-done l = record {
  counted : l.column + length l.rest ≡ length l.run.sweep.columns;
  all : HasAll (ids l.order-inside.tracks.now) l.by_id;
  rounds : AreRounds l.column l.by_id;
  way : IsOnWay l.channel (ids l.order-inside.tracks.now) l.run.sweep.begun l.run.sweep.columns l.column l.rest l.by_id l.wires.segments.items
      l.wires.vias.items;
}

abbrev pub decreases-loop-done : goal.decreases-loop-done
decreases-loop-done l = length l.rest
