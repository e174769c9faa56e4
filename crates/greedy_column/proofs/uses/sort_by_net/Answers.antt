use Rattle.std.proofs.Common.{rules}
use Rattle.std.proofs.lemmas.List.Sorted.{answers_always, IsNonDecreasingBy-from_sort}
use Rattle.greedy_column.specs.declared.uses.Use.{Use}
use Rattle.greedy_column.proofs.uses.sort_by_net.Goals as goal

pub returns-clause-sorted : goal.returns-clause-sorted
returns-clause-sorted c =
    IsNonDecreasingBy-from_sort (λ (u : Use). u.net) _
    (c.in_ok-sort_by_key.ensures.sorted (λ (u : Use). u.net) (answers_always _ _ _ (λ f a r g h. search rules)))

pub returns-clause-stable : goal.returns-clause-stable
returns-clause-stable c =
    c.in_ok-sort_by_key.ensures.stable (λ (u : Use). u.net) (answers_always _ _ _ (λ f a r g h. search rules))
