use Rattle.std.proofs.Common.{◌≡◌, is_some, length, true}
use Rattle.cif_text.specs.Printing.{text_of}
use Rattle.cif_text.specs.Written.{items_commands, layer_after}
use Rattle.shelf_io.proofs.SoFar.{SoFar}
use Rattle.cif_writer.specs.InReach.{IsPlaceInReach}
use Rattle.cif_writer.specs.Symbols.{copies_of}
use Rattle.channel_stack.specs.declared.placed.PlacedItem.{PlacedItem}
use Rattle.std.specs.List.{AllByRecursion}
use Rattle.cif_writer.proofs.rows.write_row.Given as goal

abbrev pub invariant-loop-placed : goal.invariant-loop-placed
invariant-loop-placed g l = record {
  so_far : SoFar (text_of (items_commands l.fn.text.last (copies_of (is_some l.parts.labels) l.parts.rules.now l.parts.design.now l.feeds l.row))) (text_of (items_commands l.text.last (copies_of (is_some l.parts.labels) l.parts.rules.now l.parts.design.now l.feeds l.rest)))
      l.fn.text.buffered l.text.buffered (g.K.Sink.written l.fn.out) (g.K.Sink.written l.out) (g.K.Sink.faults l.fn.out) (g.K.Sink.faults l.out) (g.K.Sink.same_place l.fn.out l.out) (g.K.Sink.else_same l.fn.out l.out true);
  layer : layer_after l.text.last (copies_of (is_some l.parts.labels) l.parts.rules.now l.parts.design.now l.feeds l.rest)
      ≡ layer_after l.fn.text.last (copies_of (is_some l.parts.labels) l.parts.rules.now l.parts.design.now l.feeds l.row);
  places : AllByRecursion (λ (p : PlacedItem). IsPlaceInReach p.place) l.rest;
}

abbrev pub decreases-loop-placed : goal.decreases-loop-placed
decreases-loop-placed g l = length l.rest
