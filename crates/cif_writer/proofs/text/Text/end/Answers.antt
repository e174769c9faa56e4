use Rattle.std.proofs.Common.{◌≡◌, ap}
use Rattle.shelf_io.proofs.WroteLaws.{puts-behind}
use Rattle.shelf_io.proofs.WritesLaws.{puts-unwritten}
use Rattle.cif_writer.specs.Begun.{Begun}
use Rattle.cif_writer.proofs.text.Text.end.Goals as goal

pub returns-in_err-put_command : goal.returns-in_err-put_command
returns-in_err-put_command g c =
    let same : c.self.inside.buffer ≡ c.args.self.now.buffered = ap (λ (b : Begun). b.buffered) c.self.view_is in
    rw (← same) (puts-unwritten c.from_residual.result c.from_residual.ensures.0 c.in_err-put_command.ensures)

pub returns : goal.returns
returns g c =
    let same : c.self.inside.buffer ≡ c.args.self.now.buffered = ap (λ (b : Begun). b.buffered) c.self.view_is in
    let e = c.in_ok-put_command.ensures in
    rw (← same) (puts-behind c.flush.result (g.met.K.Sink.place_then _ _ _ e.place) (g.met.K.Sink.same_then _ _ _) e.wrote c.flush.ensures.put)
