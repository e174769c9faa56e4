use Rattle.std.proofs.Common.{rules}
use Rattle.greedy_router.proofs.ColumnsLaws.{columns-length}
use Rattle.greedy_router.proofs.columns.Columns.len.Goals as goal

pub returns : goal.returns
returns c = let long = columns-length c.self.inside.parts c.self.invariant in rw (← c.self.view_is) (search (rules, long))
