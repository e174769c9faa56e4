use Rattle.std.proofs.Common.{◌≡◌, sym, subst, rules}
use Rattle.greedy_column.specs.Joining.{ArePairs, neighbours}
use Rattle.greedy_column.proofs.PairLaws.{ArePairs-neighbours}
use Rattle.greedy_column.proofs.pairs.neighbours_by.Goals as goal

pub invariant_of-result : goal.invariant_of-result
invariant_of-result c =
    let is : c.in_ok-list.list.items ≡ neighbours c.args.tracks.now = search rules in
    subst ArePairs (sym is) (ArePairs-neighbours c.args.tracks.now c.list-all.ensures.few)
