use Rattle.cif_writer.proofs.printing.put_name.Goals as goal
use Rattle.std.proofs.Common.{◌++◌, ◌∷◌, []}
use Rattle.shelf_io.proofs.WroteLaws.{writes-none}
use Rattle.shelf_io.proofs.WritesLaws.{writes-both, writes-stopped}
use Rattle.cif_writer.proofs.Lines.{name-text}

pub returns-in_default : goal.returns-in_default
returns-in_default g c = rw c.in_default.is (writes-none _ c.args.buffer.now _ _ (g.met.K.Sink.place_here c.args.out.now) (g.met.K.Sink.same_here c.args.out.now))

pub returns-in_err-append : goal.returns-in_err-append
returns-in_err-append g c =
    rw (c.in-Some.is, name-text c.args.kind c.digits_of.result.now c.in-Some.name.now (c.digits_of.ensures _))
    (writes-stopped c.from_residual.result (c.in-Some.name.now ++ 59 ∷ 10 ∷ []) c.from_residual.ensures.0 c.in_err-append.ensures)

pub returns-in_err-append-2 : goal.returns-in_err-append-2
returns-in_err-append-2 g c =
    let result = c.from_residual-in_err-append-2.result in
    rw (c.in-Some.is, name-text c.args.kind c.digits_of.result.now c.in-Some.name.now (c.digits_of.ensures _))
    (writes-both result (g.met.K.Sink.place_then _ _ _) (g.met.K.Sink.same_then _ _ _) c.in_ok-append.ensures
    (writes-stopped result (59 ∷ 10 ∷ []) c.from_residual-in_err-append-2.ensures.0 (rw c.items.ensures at c.in_err-append-2.ensures)))

pub returns : goal.returns
returns g c =
    rw (c.in-Some.is, name-text c.args.kind c.digits_of.result.now c.in-Some.name.now (c.digits_of.ensures _))
    (writes-both c.append-3.result (g.met.K.Sink.place_then _ _ _) (g.met.K.Sink.same_then _ _ _) c.in_ok-append.ensures
    (writes-both c.append-3.result (g.met.K.Sink.place_then _ _ _) (g.met.K.Sink.same_then _ _ _) (rw c.items.ensures at c.in_ok-append-2.ensures) c.append-3.ensures))
