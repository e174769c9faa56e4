use Rattle.std.proofs.Common.{◌∙◌, ℕ, List, arith, leb, ltb, rules, get_or, subst, sym}
use Rattle.std.proofs.lemmas.List.Sorted.{IsPartitionPoint-from_clause, IsPartitionedBy-ltb, IsNonDecreasingBy-drop}
use Rattle.std.specs.List.Sorted.{IsNonDecreasing}
use Rattle.greedy_column.proofs.AscentLaws.{passing_from, reaches, reaches_not}
use Rattle.greedy_column.proofs.free_lines.from_line.Goals as goal

pub returns-clause-from : goal.returns-clause-from
returns-clause-from c =
    let lines = c.args.lines.now in
    let low = c.args.low in
    let place = c.partition_point-place.result in
    let point = IsPartitionPoint-from_clause (λ (line : ℕ). ltb line low) lines place c.partition_point-place.ensures.partitioned
    (IsPartitionedBy-ltb (λ (line : ℕ). line) lines low c.requires) (λ a r f' k. search rules) in
    c.split_at.ensures.back
    ∙ passing_from (λ line. leb low line) place lines (λ k d below. reaches low (get_or lines k d) (point.0 k d (omega arith) below))
    (λ k d above within. reaches_not low (get_or lines k d) (point.1 k d above within))

pub returns-clause-ascending : goal.returns-clause-ascending
returns-clause-ascending c =
    subst (λ (l : List ℕ). IsNonDecreasing l) (sym c.split_at.ensures.back)
    (IsNonDecreasingBy-drop (λ (line : ℕ). line) c.partition_point-place.result c.args.lines.now c.requires)
