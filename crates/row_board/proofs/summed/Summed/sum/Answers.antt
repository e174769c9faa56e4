use Rattle.row_board.proofs.summed.Summed.sum.Goals as goal
use Rattle.std.proofs.Common.{ap, arith, length}
use Rattle.std_laws.proofs.Sums.{sum-small}

pub returns-clause-small : goal.returns-clause-small
returns-clause-small c = omega (arith, sum-small 2199023255552 c.self.inside.items.items c.self.invariant.small, c.self.invariant.is, ap length c.self.view_is)
