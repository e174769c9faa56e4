use Rattle.std.proofs.Common.{subst, List}
use Rattle.greedy_column.specs.declared.span.Span.{Span}
use Rattle.greedy_column.specs.Uses.{next_after}
use Rattle.greedy_column.specs.Follows.{AreEndsTold}
use Rattle.greedy_column.proofs.moment.Moment.join_and_end.Goals as goal

pub returns-clause-ends : goal.returns-clause-ends
returns-clause-ends g c =
    subst (λ (l : List Span). AreEndsTold (g.C.Chooses.answers c.args.self.now.chooser.now) (next_after c.args.self.now.ahead.now.uses.items c.args.self.now.column) c.args.paired.now.tracks.now l
    c.in_ok-ends.ends.ids.items) c.deref.ensures.value c.in_ok-ends.ensures.told
