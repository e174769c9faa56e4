use Rattle.marker_text.proofs.boxes.append_sides.Goals as goal
use Rattle.std.proofs.Common.{◌++◌}
use Rattle.std.specs.Prelude.{codes}
use Rattle.std.proofs.lemmas.Int.{to_z-of_z}
use mir.Syntax.{w64}
use mir.Val.{SFits}
use Rattle.shelf_io.proofs.WritesLaws.{writes-both, writes-stopped}
use Rattle.marker_text.specs.Boxes.{box_text, corner}

pub returns-in_err-append_corner : goal.returns-in_err-append_corner
unfolding box_text
returns-in_err-append_corner g c =
    let fits-x0 : SFits w64 c.args.x0 = c.ranges.x0 in
    let fits-y0 : SFits w64 c.args.y0 = c.ranges.y0 in
    let fits-x1 : SFits w64 c.args.x1 = c.ranges.x1 in
    let fits-y1 : SFits w64 c.args.y1 = c.ranges.y1 in
    writes-stopped c.from_residual.result (corner (codes ";") c.args.x1 c.args.y1 ++ codes ")</value>\n") c.from_residual.ensures.0 (simp to_z-of_z at c.in_err-append_corner.ensures)

pub returns-in_err-append_corner-2 : goal.returns-in_err-append_corner-2
unfolding box_text
returns-in_err-append_corner-2 g c =
    let fits-x0 : SFits w64 c.args.x0 = c.ranges.x0 in
    let fits-y0 : SFits w64 c.args.y0 = c.ranges.y0 in
    let fits-x1 : SFits w64 c.args.x1 = c.ranges.x1 in
    let fits-y1 : SFits w64 c.args.y1 = c.ranges.y1 in
    let result = c.from_residual-in_err-append_corner-2.result in
    writes-both result (g.met.K.Sink.place_then _ _ _) (g.met.K.Sink.same_then _ _ _) (simp to_z-of_z at c.in_ok-append_corner.ensures)
    (writes-stopped result (codes ")</value>\n") c.from_residual-in_err-append_corner-2.ensures.0 (simp to_z-of_z at c.in_err-append_corner-2.ensures))

pub returns : goal.returns
unfolding box_text
returns g c =
    let fits-x0 : SFits w64 c.args.x0 = c.ranges.x0 in
    let fits-y0 : SFits w64 c.args.y0 = c.ranges.y0 in
    let fits-x1 : SFits w64 c.args.x1 = c.ranges.x1 in
    let fits-y1 : SFits w64 c.args.y1 = c.ranges.y1 in
    writes-both c.append.result (g.met.K.Sink.place_then _ _ _) (g.met.K.Sink.same_then _ _ _) (simp to_z-of_z at c.in_ok-append_corner.ensures)
    (writes-both c.append.result (g.met.K.Sink.place_then _ _ _) (g.met.K.Sink.same_then _ _ _) (simp to_z-of_z at c.in_ok-append_corner-2.ensures) c.append.ensures)
