use Rattle.std.proofs.Common.{subst, List}
use Rattle.greedy_column.specs.declared.span.Span.{Span}
use Rattle.greedy_column.specs.Uses.{next_after}
use Rattle.greedy_column.specs.Offers.{IsPicked, join_offer}
use Rattle.greedy_column.proofs.moment.Moment.next_join.Goals as goal

pub returns : goal.returns
returns g c =
    subst (λ (l : List Span). IsPicked (g.C.Chooses.answers c.args.self.now.chooser.now) (join_offer (next_after c.args.self.now.ahead.now.uses.items c.args.self.now.column)) l c.in_ok-pair.pair)
    c.in_ok-joins.ensures c.in_ok-pair.ensures
