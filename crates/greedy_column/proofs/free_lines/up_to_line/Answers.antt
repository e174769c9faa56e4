use Rattle.std.proofs.Common.{◌∙◌, ℕ, arith, leb, rules}
use Rattle.std.proofs.lemmas.List.Sorted.{IsPartitionPoint-from_clause, IsPartitionedBy-leb}
use Rattle.greedy_column.proofs.AscentLaws.{passing_to}
use Rattle.greedy_column.proofs.free_lines.up_to_line.Goals as goal

pub returns : goal.returns
returns c =
    let lines = c.args.lines.now in
    let high = c.args.high in
    let place = c.partition_point-place.result in
    let point = IsPartitionPoint-from_clause (λ (line : ℕ). leb line high) lines place c.partition_point-place.ensures.partitioned
    (IsPartitionedBy-leb (λ (line : ℕ). line) lines high c.requires) (λ a r f' k. search rules) in
    c.split_at.ensures.front
    ∙ passing_to (λ line. leb line high) place lines c.partition_point-place.ensures.bound (λ k d below. point.0 k d (omega arith) below) point.1
