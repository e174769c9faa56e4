use Rattle.std.proofs.Common.{◌≡◌, ◌+◌, length, map, true}
use Rattle.cif_text.specs.Printing.{text_of}
use Rattle.cif_text.specs.Written.{items_commands, layer_after}
use Rattle.shelf_io.proofs.SoFar.{SoFar}
use Rattle.cif_writer.specs.Labels.{label_of, terminal_marks}
use Rattle.cif_writer.proofs.labels.write_nets.Given as goal

abbrev pub invariant-loop-others : goal.invariant-loop-others
invariant-loop-others g l = record {
  so_far : SoFar (text_of (items_commands l.fn.text.last (map label_of (terminal_marks l.parts.rules.now l.parts.design.now l.cell.instance l.cell.kind.now l.cell.place.now 0 l.cell.kind.now.terminals))))
      (text_of (items_commands l.text.last (map label_of (terminal_marks l.parts.rules.now l.parts.design.now l.cell.instance l.cell.kind.now l.cell.place.now l.terminal l.rest))))
      l.fn.text.buffered l.text.buffered (g.K.Sink.written l.fn.out) (g.K.Sink.written l.out) (g.K.Sink.faults l.fn.out) (g.K.Sink.faults l.out) (g.K.Sink.same_place l.fn.out l.out) (g.K.Sink.else_same l.fn.out l.out true);
  count : l.terminal + length l.rest ≡ length l.cell.kind.now.terminals;
  layer : layer_after l.text.last (map label_of (terminal_marks l.parts.rules.now l.parts.design.now l.cell.instance l.cell.kind.now l.cell.place.now l.terminal l.rest))
      ≡ layer_after l.fn.text.last (map label_of (terminal_marks l.parts.rules.now l.parts.design.now l.cell.instance l.cell.kind.now l.cell.place.now 0 l.cell.kind.now.terminals));
}

abbrev pub decreases-loop-others : goal.decreases-loop-others
decreases-loop-others g l = length l.rest
