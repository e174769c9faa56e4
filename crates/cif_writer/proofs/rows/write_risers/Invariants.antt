use Rattle.std.proofs.Common.{◌≡◌, length, true}
use Rattle.std.specs.List.{AllByRecursion}
use Rattle.cif_text.specs.Printing.{text_of}
use Rattle.cif_text.specs.Written.{items_commands, layer_after}
use Rattle.geom_core.specs.Reach.{IsShapeInReach}
use Rattle.shelf_io.proofs.SoFar.{SoFar}
use Rattle.wire_geom.specs.declared.drawn.Drawn.{Drawn}
use Rattle.cif_writer.specs.Symbols.{wires_of}
use Rattle.cif_writer.proofs.rows.write_risers.Given as goal

abbrev pub invariant-loop-riser : goal.invariant-loop-riser
invariant-loop-riser g l = record {
  so_far : SoFar (text_of (items_commands l.fn.text.last (wires_of l.risers))) (text_of (items_commands l.text.last (wires_of l.rest)))
      l.fn.text.buffered l.text.buffered (g.K.Sink.written l.fn.out) (g.K.Sink.written l.out) (g.K.Sink.faults l.fn.out) (g.K.Sink.faults l.out) (g.K.Sink.same_place l.fn.out l.out) (g.K.Sink.else_same l.fn.out l.out true);
  layer : layer_after l.text.last (wires_of l.rest) ≡ layer_after l.fn.text.last (wires_of l.risers);
  reach : AllByRecursion (λ (a : Drawn). IsShapeInReach a.shape) l.rest;
}

abbrev pub decreases-loop-riser : goal.decreases-loop-riser
decreases-loop-riser g l = length l.rest
