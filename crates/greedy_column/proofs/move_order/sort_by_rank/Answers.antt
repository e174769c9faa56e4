use Rattle.std.proofs.Common.{rules}
use Rattle.std.proofs.lemmas.List.Sorted.{answers_always, IsNonDecreasingBy-from_sort}
use Rattle.greedy_column.specs.declared.move_order.Waiting.{Waiting}
use Rattle.greedy_column.proofs.move_order.sort_by_rank.Goals as goal

pub returns-clause-sorted : goal.returns-clause-sorted
returns-clause-sorted c =
    IsNonDecreasingBy-from_sort (λ (w : Waiting). w.rank) _
    (c.in_ok-sort_by_key.ensures.sorted (λ (w : Waiting). w.rank) (answers_always _ _ _ (λ f a r g h. search rules)))

pub returns-clause-stable : goal.returns-clause-stable
returns-clause-stable c =
    c.in_ok-sort_by_key.ensures.stable (λ (w : Waiting). w.rank) (answers_always _ _ _ (λ f a r g h. search rules))
