use Rattle.std.proofs.Common.{List, subst, sym}
use Rattle.greedy_column.specs.declared.span.Span.{Span}
use Rattle.greedy_column.specs.Moving.{TellSplit}
use Rattle.greedy_column.proofs.move_order.order_of_moves.Goals as goal

pub order_ahead-requires-clause-tell : goal.order_ahead-requires-clause-tell
order_ahead-requires-clause-tell c = subst (λ (l : List Span). TellSplit l c.args.kept.now) (sym c.list.ensures.list) c.requires.tell
