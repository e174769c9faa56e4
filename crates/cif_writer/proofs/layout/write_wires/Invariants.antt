use Rattle.std.proofs.Common.{◌≡◌, drop, true}
use Rattle.cif_text.specs.Printing.{text_of}
use Rattle.cif_text.specs.Written.{items_commands, layer_after}
use Rattle.shelf_io.proofs.SoFar.{SoFar}
use Rattle.wire_geom.specs.Drawing.{drawing}
use Rattle.cif_writer.specs.Symbols.{wires_of}
use Rattle.cif_writer.proofs.layout.write_wires.Given as goal

abbrev pub invariant-loop-k : goal.invariant-loop-k
invariant-loop-k g l = record {
  so_far : SoFar (text_of (items_commands l.fn.text.last (wires_of (drawing l.rules l.base l.wiring))))
      (text_of (items_commands l.text.last (wires_of (drop l.k (drawing l.rules l.base l.wiring)))))
      l.fn.text.buffered l.text.buffered (g.K.Sink.written l.fn.out) (g.K.Sink.written l.out) (g.K.Sink.faults l.fn.out) (g.K.Sink.faults l.out) (g.K.Sink.same_place l.fn.out l.out) (g.K.Sink.else_same l.fn.out l.out true);
  layer : layer_after l.text.last (wires_of (drop l.k (drawing l.rules l.base l.wiring)))
      ≡ layer_after l.fn.text.last (wires_of (drawing l.rules l.base l.wiring));
}
