use Rattle.std.proofs.Common.{arith}
use Rattle.row_board.proofs.JoinLaws.{joined-few}
use Rattle.row_board.proofs.net_costs.NetCosts.joined.Goals as goal

pub returns-clause-few : goal.returns-clause-few
returns-clause-few c = omega (arith, c.joined.ensures, joined-few c.self.inside.nets c.args.instance c.self.invariant.good)
