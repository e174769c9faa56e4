use Rattle.std.proofs.Common.{length, None, true}
use Rattle.std.specs.List.{AllByRecursion}
use Rattle.cif_text.specs.Printing.{text_of}
use Rattle.cif_text.specs.Written.{shapes_commands}
use Rattle.geom_core.specs.Reach.{IsShapeInReach}
use Rattle.shelf_io.proofs.SoFar.{SoFar}
use Rattle.cif_writer.proofs.printing.put_shapes.Given as goal

abbrev pub invariant-loop-shape : goal.invariant-loop-shape
invariant-loop-shape g l = record {
  so_far : SoFar (text_of (shapes_commands None l.shapes)) (text_of (shapes_commands l.last l.rest)) l.fn.buffer l.buffer
      (g.K.Sink.written l.fn.out) (g.K.Sink.written l.out) (g.K.Sink.faults l.fn.out) (g.K.Sink.faults l.out) (g.K.Sink.same_place l.fn.out l.out) (g.K.Sink.else_same l.fn.out l.out true);
  reach : AllByRecursion IsShapeInReach l.rest;
}

abbrev pub decreases-loop-shape : goal.decreases-loop-shape
decreases-loop-shape g l = length l.rest
