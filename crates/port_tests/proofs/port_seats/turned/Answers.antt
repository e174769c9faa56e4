use Rattle.std.proofs.Common.{sym, subst}
use Rattle.row_model.specs.Rows.{ArePlaced}
use Rattle.row_model.proofs.SwapLaws.{mirror-placed}
use Rattle.port_tests.proofs.port_seats.turned.Goals as goal

pub returns : goal.returns
returns c = subst (ArePlaced c.args.design.now) (sym c.mirror.ensures) (mirror-placed c.args.design.now c.args.rows c.args.instance c.requires)
