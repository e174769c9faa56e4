use Rattle.feed_cells.proofs.places.place_among.Goals as goal
use Rattle.std.proofs.Common.{◌≤◌, ℕ, length, rules, ltb, sym}
use Rattle.std.proofs.lemmas.List.Sorted.{IsPartitionPoint-from_clause, IsPartitionedBy-ltb}
use Rattle.std_laws.proofs.Counts.{counted}

-- The numbers below the middle are those before the place that the search answers.

pub returns-clause-is : goal.returns-clause-is
returns-clause-is c =
    let parted = IsPartitionedBy-ltb (λ (left : ℕ). left) c.args.lefts.now c.args.middle c.requires.rising in
    let point = IsPartitionPoint-from_clause (λ (left : ℕ). ltb left c.args.middle) c.args.lefts.now c.partition_point.result c.partition_point.ensures.partitioned parted (λ a r q k. search rules) in
    let within : c.partition_point.result ≤ length c.args.lefts.now = search rules in
    sym (counted (λ (left : ℕ). ltb left c.args.middle) c.args.lefts.now c.partition_point.result within point.0 point.1)
