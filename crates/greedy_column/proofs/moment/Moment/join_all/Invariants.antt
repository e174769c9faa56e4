use Rattle.std.proofs.Common.{◌≡◌, ◌++◌, List, length}
use Rattle.greedy_column.specs.declared.span.Span.{Span}
use Rattle.greedy_column.specs.Uses.{next_after}
use Rattle.greedy_column.specs.Joining.{JoinsFollow, possible_joins}
use Rattle.greedy_column.proofs.moment.Moment.join_all.Given as goal

abbrev pub invariant-loop-joined : goal.invariant-loop-joined
invariant-loop-joined g l = record {
  spans : l.spans.items ≡ l.fn.spans.items ++ l.joined.items;
  so_far : (rest : List Span) → JoinsFollow (g.C.Chooses.answers l.self.chooser.now) (next_after l.self.ahead.now.uses.items l.self.column) l.pairs l.spans.items rest
      → JoinsFollow (g.C.Chooses.answers l.self.chooser.now) (next_after l.self.ahead.now.uses.items l.self.column) l.pairs l.fn.spans.items (l.joined.items ++ rest);
}

abbrev pub decreases-loop-joined : goal.decreases-loop-joined
decreases-loop-joined g l = length (possible_joins l.spans.items l.pairs)
