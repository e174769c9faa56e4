use Rattle.marker_text.proofs.boxes.append_corner.Goals as goal
use Rattle.std.proofs.Common.{◌++◌}
use Rattle.std.specs.Prelude.{codes}
use Rattle.std.proofs.lemmas.Int.{to_z-of_z}
use mir.Syntax.{w64}
use mir.Val.{SFits}
use Rattle.shelf_io.proofs.WritesLaws.{writes-both, writes-stopped}
use Rattle.marker_text.specs.Microns.{microns}

pub returns-in_err-append : goal.returns-in_err-append
returns-in_err-append g c =
    let fits-x : SFits w64 c.args.x = c.ranges.x in
    let fits-y : SFits w64 c.args.y = c.ranges.y in
    writes-stopped c.from_residual.result (microns c.args.x ++ (codes "," ++ microns c.args.y)) c.from_residual.ensures.0 c.in_err-append.ensures

pub returns-in_err-append_length : goal.returns-in_err-append_length
returns-in_err-append_length g c =
    let fits-x : SFits w64 c.args.x = c.ranges.x in
    let fits-y : SFits w64 c.args.y = c.ranges.y in
    let result = c.from_residual-in_err-append_length.result in
    writes-both result (g.met.K.Sink.place_then _ _ _) (g.met.K.Sink.same_then _ _ _) c.in_ok-append.ensures
    (writes-stopped result (codes "," ++ microns c.args.y) c.from_residual-in_err-append_length.ensures.0 (simp to_z-of_z at c.in_err-append_length.ensures))

pub returns-in_err-append-2 : goal.returns-in_err-append-2
returns-in_err-append-2 g c =
    let fits-x : SFits w64 c.args.x = c.ranges.x in
    let fits-y : SFits w64 c.args.y = c.ranges.y in
    let result = c.from_residual-in_err-append-2.result in
    writes-both result (g.met.K.Sink.place_then _ _ _) (g.met.K.Sink.same_then _ _ _) c.in_ok-append.ensures
    (writes-both result (g.met.K.Sink.place_then _ _ _) (g.met.K.Sink.same_then _ _ _) (simp to_z-of_z at c.in_ok-append_length.ensures)
    (writes-stopped result (microns c.args.y) c.from_residual-in_err-append-2.ensures.0 c.in_err-append-2.ensures))

pub returns : goal.returns
returns g c =
    let fits-x : SFits w64 c.args.x = c.ranges.x in
    let fits-y : SFits w64 c.args.y = c.ranges.y in
    let result = c.append_length-2.result in
    writes-both result (g.met.K.Sink.place_then _ _ _) (g.met.K.Sink.same_then _ _ _) c.in_ok-append.ensures
    (writes-both result (g.met.K.Sink.place_then _ _ _) (g.met.K.Sink.same_then _ _ _) (simp to_z-of_z at c.in_ok-append_length.ensures)
    (writes-both result (g.met.K.Sink.place_then _ _ _) (g.met.K.Sink.same_then _ _ _) c.in_ok-append-2.ensures (simp to_z-of_z at c.append_length-2.ensures)))
