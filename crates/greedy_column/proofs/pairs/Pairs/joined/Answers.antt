use Rattle.std.proofs.Common.{◌≡◌, filter, sym, subst, rules}
use Rattle.greedy_column.specs.Joining.{ArePairs, is_joined}
use Rattle.greedy_column.proofs.PairLaws.{ArePairs-filter}
use Rattle.greedy_column.proofs.pairs.Pairs.joined.Goals as goal

pub invariant_of-result : goal.invariant_of-result
invariant_of-result c =
    let is : c.in_ok-list.list.items ≡ filter (is_joined c.args.spans.now) c.self.inside.list.items = search rules in
    subst ArePairs (sym is) (ArePairs-filter _ c.self.inside.list.items c.self.invariant)
