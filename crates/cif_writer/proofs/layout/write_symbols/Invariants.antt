use Rattle.std.proofs.Common.{◌≡◌, ◌+◌, List, length, None, true}
use Rattle.std.specs.List.{AllByRecursion}
use Rattle.cif_text.specs.Printing.{text_of}
use Rattle.cif_text.specs.Written.{symbols_commands}
use Rattle.geom_core.specs.Reach.{IsShapeInReach}
use Rattle.geom_core.specs.declared.layout.Shape.{Shape}
use Rattle.shelf_io.proofs.SoFar.{SoFar}
use Rattle.cif_writer.specs.Symbols.{symbols_with}
use Rattle.cif_writer.proofs.layout.write_symbols.Given as goal

abbrev pub invariant-loop-drawing : goal.invariant-loop-drawing
invariant-loop-drawing g l = record {
  so_far : SoFar (text_of (symbols_commands 1 (symbols_with l.design 0 l.drawings))) (text_of (symbols_commands (l.number + 1) (symbols_with l.design l.number l.rest)))
      l.fn.text.buffered l.text.buffered (g.K.Sink.written l.fn.out) (g.K.Sink.written l.out) (g.K.Sink.faults l.fn.out) (g.K.Sink.faults l.out) (g.K.Sink.same_place l.fn.out l.out) (g.K.Sink.else_same l.fn.out l.out true);
  count : l.number + length l.rest ≡ length l.drawings;
  reach : AllByRecursion (λ (shapes : List Shape). AllByRecursion IsShapeInReach shapes) l.rest;
  last : l.text.last ≡ None;
}

abbrev pub decreases-loop-drawing : goal.decreases-loop-drawing
decreases-loop-drawing g l = length l.rest
