use Rattle.std.proofs.Common.{rules}
use Rattle.std.proofs.lemmas.List.Sorted.{IsPartitionPoint-from_clause}
use Rattle.greedy_column.specs.Uses.{is_past}
use Rattle.greedy_column.proofs.AheadLaws.{is_past-partitions}
use Rattle.greedy_column.proofs.uses.place_behind.Goals as goal

pub returns-clause-before : goal.returns-clause-before
returns-clause-before c =
    (IsPartitionPoint-from_clause (is_past c.args.net c.args.column) c.args.uses.now c.partition_point.result c.partition_point.ensures.partitioned
    (λ i j d order within past. is_past-partitions c.args.uses.now c.args.net c.args.column i j d c.requires order within past) (λ a r f' k. search rules)).0

pub returns-clause-behind : goal.returns-clause-behind
returns-clause-behind c =
    (IsPartitionPoint-from_clause (is_past c.args.net c.args.column) c.args.uses.now c.partition_point.result c.partition_point.ensures.partitioned
    (λ i j d order within past. is_past-partitions c.args.uses.now c.args.net c.args.column i j d c.requires order within past) (λ a r f' k. search rules)).1
