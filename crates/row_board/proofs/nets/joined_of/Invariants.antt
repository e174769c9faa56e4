use Rattle.std.proofs.Common.{◌≡◌, ℕ, map, slice_get, sum}
use Rattle.std.specs.List.{range_with_len}
use Rattle.list_facts.specs.Lists.{list_there}
use Rattle.row_board.specs.NetPins.{joined_by}
use Rattle.row_board.proofs.nets.joined_of.Given as goal

abbrev pub invariant-loop-instance : goal.invariant-loop-instance
invariant-loop-instance l = l.joined.items ≡ map (λ (i : ℕ). sum (map (joined_by l.nets) (list_there (slice_get l.pins i)))) (range_with_len 0 l.instance)
