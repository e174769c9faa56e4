use Rattle.layout_picture.proofs.pieces.+append_pieces.Goals as goal
use Rattle.std.proofs.Common.{◌≡◌, [], map}
use Rattle.std.proofs.lemmas.List.{nil_from_length}
use Rattle.std.specs.List.{concat}
use Rattle.shelf_io.proofs.WroteLaws.{writes-none}
use Rattle.shelf_io.proofs.WritesLaws.{writes-both, writes-stopped}
use Rattle.layout_picture.specs.Pieces.{piece_text}

pub returns-in_err-append_piece : goal.returns-in_err-append_piece
returns-in_err-append_piece g t c =
    rw c.in-Some.ensures.cases.0
    (writes-stopped c.from_residual.result (concat (map piece_text c.in-Some.after.now)) c.from_residual.ensures.0 c.in_err-append_piece.ensures)

pub returns-in_default : goal.returns-in_default
returns-in_default g t c =
    let none : c.args.pieces.now ≡ [] = nil_from_length c.args.pieces.now c.in_default.ensures.cases in
    rw none (writes-none _ c.args.buffer.now (g.K.Sink.written c.args.out.now) (g.K.Sink.faults c.args.out.now) {S = g.K.Sink.else_same c.args.out.now c.args.out.now}
    (g.met.K.Sink.place_here c.args.out.now) (g.met.K.Sink.same_here c.args.out.now))

pub returns : goal.returns
returns g t c =
    rw c.in-Some.ensures.cases.0
    (writes-both c.append_pieces.result (g.met.K.Sink.place_then _ _ _) (g.met.K.Sink.same_then _ _ _) c.in_ok-append_piece.ensures c.append_pieces.ensures)
