use Rattle.cif_writer.proofs.rows.write_level.Goals as goal
use Rattle.std.proofs.Common.{is_some}
use Rattle.cif_text.specs.Printing.{text_of}
use Rattle.cif_text.specs.Written.{items_commands, layer_after}
use Rattle.cif_writer.specs.Symbols.{copies_of, feed_number, wires_of}
use Rattle.shelf_io.proofs.WritesLaws.{writes-both, writes-stopped}
use Rattle.cif_writer.proofs.LayoutLines.{level-layer, level-parts}

pub returns-in_err-write_row-clause-wrote : goal.returns-in_err-write_row-clause-wrote
returns-in_err-write_row-clause-wrote g c =
    let p = c.args.parts.now in
    rw (level-parts (is_some p.labels) p.rules.now p.design.now c.args.tall.now c.args.height c.args.text.now.last c.args.row.now c.args.risers.now)
    (writes-stopped c.from_residual.result
    (text_of (items_commands (layer_after c.args.text.now.last (copies_of (is_some p.labels) p.rules.now p.design.now (feed_number p.design.now c.args.tall.now c.args.height) c.args.row.now)) (wires_of c.args.risers.now)))
    c.from_residual.ensures.0 (rw c.feed_number-feeds.ensures at c.in_err-write_row.ensures.wrote))

pub returns-clause-wrote : goal.returns-clause-wrote
returns-clause-wrote g c =
    let p = c.args.parts.now in
    let row = c.in_ok-write_row.ensures in
    let last = rw c.feed_number-feeds.ensures at row.layer in
    rw (level-parts (is_some p.labels) p.rules.now p.design.now c.args.tall.now c.args.height c.args.text.now.last c.args.row.now c.args.risers.now)
    (writes-both c.write_risers.result (g.met.K.Sink.place_then _ _ _) (g.met.K.Sink.same_then _ _ _) (rw c.feed_number-feeds.ensures at row.wrote)
    (rw last at c.write_risers.ensures.wrote))

pub returns-clause-layer : goal.returns-clause-layer
returns-clause-layer g c =
    let p = c.args.parts.now in
    let last = rw c.feed_number-feeds.ensures at c.in_ok-write_row.ensures.layer in
    rw (level-layer (is_some p.labels) p.rules.now p.design.now c.args.tall.now c.args.height c.args.text.now.last c.args.row.now c.args.risers.now)
    (rw last at c.write_risers.ensures.layer)
