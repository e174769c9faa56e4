use Rattle.std.proofs.Common.{is_some, map}
use Rattle.std.proofs.lemmas.List.{append-nil}
use Rattle.cif_text.specs.Printing.{text_of}
use Rattle.cif_text.specs.Written.{items_commands}
use Rattle.shelf_io.proofs.WritesLaws.{writes-both, writes-stopped}
use Rattle.cif_writer.specs.Labels.{item_marks, label_of}
use Rattle.cif_writer.proofs.LayoutLines.{item-parts}
use Rattle.cif_writer.proofs.rows.write_item.Goals as goal

pub returns-in_err-cell-clause-wrote : goal.returns-in_err-cell-clause-wrote
returns-in_err-cell-clause-wrote g c =
    rw (item-parts (is_some c.args.parts.now.labels) c.args.parts.now.rules.now c.args.parts.now.design.now c.args.text.now.last c.args.feeds c.args.placed.now)
    (writes-stopped c.from_residual.result (text_of (items_commands c.args.text.now.last (map label_of (item_marks (is_some c.args.parts.now.labels) c.args.parts.now.rules.now c.args.parts.now.design.now c.args.placed.now))))
    c.from_residual.ensures.0 (rw (c.copy_name-name.ensures, c.copy_number-number.ensures) at c.in_err-cell.ensures.wrote))

pub returns-in_default-clause-wrote : goal.returns-in_default-clause-wrote
returns-in_default-clause-wrote g c =
    let cell = rw (c.copy_name-name.ensures, c.copy_number-number.ensures) at c.in_ok-cell.ensures.wrote in
    rw (item-parts (is_some c.args.parts.now.labels) c.args.parts.now.rules.now c.args.parts.now.design.now c.args.text.now.last c.args.feeds c.args.placed.now, c.in_default.is, append-nil) cell

pub write_labels-requires-clause-firsts : goal.write_labels-requires-clause-firsts
write_labels-requires-clause-firsts g c = rw c.in-Some.is at c.requires.parts.firsts_are

pub returns-clause-wrote : goal.returns-clause-wrote
returns-clause-wrote g c =
    let cell = rw (c.copy_name-name.ensures, c.copy_number-number.ensures) at c.in_ok-cell.ensures.wrote in
    rw (item-parts (is_some c.args.parts.now.labels) c.args.parts.now.rules.now c.args.parts.now.design.now c.args.text.now.last c.args.feeds c.args.placed.now, c.in-Some.is)
    (writes-both c.write_labels.result (g.met.K.Sink.place_then _ _ _) (g.met.K.Sink.same_then _ _ _) cell (rw c.in_ok-cell.ensures.layer at c.write_labels.ensures.wrote))

pub returns-in_default-clause-layer : goal.returns-in_default-clause-layer
returns-in_default-clause-layer g c = rw c.in_default.is c.in_ok-cell.ensures.layer

pub returns-clause-layer : goal.returns-clause-layer
returns-clause-layer g c = rw c.in-Some.is (rw c.in_ok-cell.ensures.layer at c.write_labels.ensures.layer)
