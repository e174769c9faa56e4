use Rattle.layout_picture.proofs.cells.append_group.Goals as goal
use Rattle.std.proofs.Common.{◌++◌}
use Rattle.shelf_io.proofs.WritesLaws.{writes-both, writes-stopped}
use Rattle.layout_picture.specs.Cells.{group_text, name_text}
use Rattle.layout_picture.specs.Elements.{sides_text}

pub returns-in_err-append_pieces : goal.returns-in_err-append_pieces
unfolding group_text
returns-in_err-append_pieces g c =
    writes-stopped c.from_residual.result (sides_text c.args.frame.now c.args.rect.now ++ name_text c.args.frame.now c.args.name.now c.args.rect.now)
    c.from_residual.ensures.0 c.in_err-append_pieces.ensures

pub returns-in_err-append_sides : goal.returns-in_err-append_sides
unfolding group_text
returns-in_err-append_sides g c =
    let result = c.from_residual-in_err-append_sides.result in
    writes-both result (g.met.K.Sink.place_then _ _ _) (g.met.K.Sink.same_then _ _ _) c.in_ok-append_pieces.ensures
    (writes-stopped result (name_text c.args.frame.now c.args.name.now c.args.rect.now) c.from_residual-in_err-append_sides.ensures.0 c.in_err-append_sides.ensures)

pub returns : goal.returns
unfolding group_text
returns g c =
    let result = c.append_name.result in
    writes-both result (g.met.K.Sink.place_then _ _ _) (g.met.K.Sink.same_then _ _ _) c.in_ok-append_pieces.ensures
    (writes-both result (g.met.K.Sink.place_then _ _ _) (g.met.K.Sink.same_then _ _ _) c.in_ok-append_sides.ensures c.append_name.ensures)
