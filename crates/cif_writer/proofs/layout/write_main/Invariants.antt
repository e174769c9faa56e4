use Rattle.std.proofs.Common.{is_some, length, map, true}
use Rattle.shelf_io.proofs.SoFar.{SoFar}
use Rattle.cif_writer.specs.InReach.{AreInReach}
use Rattle.cif_writer.proofs.LayoutLines.{main_text}
use Rattle.cif_writer.proofs.layout.write_main.Given as goal

abbrev pub invariant-loop-one : goal.invariant-loop-one
invariant-loop-one g l = record {
  so_far : SoFar (main_text (is_some l.routed.labels) l.routed.rules.now l.routed.design.now l.routed.symbols.now.feed_heights l.fn.text.last (map g.W.HasWiring.wiring_of l.routed.wirings.now) l.routed.laid.now.channel_base l.routed.laid.now.row_height l.routed.laid.now.cells l.routed.laid.now.risers)
      (main_text (is_some l.routed.labels) l.routed.rules.now l.routed.design.now l.tall l.text.last (map g.W.HasWiring.wiring_of l.channels) l.edges l.heights l.rows l.risers)
      l.fn.text.buffered l.text.buffered (g.K.Sink.written l.fn.out) (g.K.Sink.written l.out) (g.K.Sink.faults l.fn.out) (g.K.Sink.faults l.out) (g.K.Sink.same_place l.fn.out l.out) (g.K.Sink.else_same l.fn.out l.out true);
  in_reach : AreInReach l.routed.rules.now (map g.W.HasWiring.wiring_of l.channels) l.edges l.rows l.risers l.routed.symbols.now.drawings;
  goes : g.V.Watch.goes l.fn.watch l.watch;
}

abbrev pub decreases-loop-one : goal.decreases-loop-one
decreases-loop-one g l = length l.channels
