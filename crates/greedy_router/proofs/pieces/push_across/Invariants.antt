use Rattle.std.proofs.Common.{◌≡◌, ◌++◌, map, length}
use Rattle.greedy_router.specs.Tables.{across_on}
use Rattle.greedy_router.proofs.pieces.push_across.Given as goal

abbrev pub invariant-loop-span : goal.invariant-loop-span
invariant-loop-span l =
    l.segments.items ++ map (across_on l.column) l.rest ≡ l.fn.segments.items ++ map (across_on l.column) l.spans

abbrev pub decreases-loop-span : goal.decreases-loop-span
decreases-loop-span l = length l.rest
