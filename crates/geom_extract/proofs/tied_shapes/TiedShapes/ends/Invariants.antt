use Rattle.std.proofs.Common.{◌≡◌, ◌++◌, drop}
use Rattle.std.specs.List.{range_with_len}
use Rattle.geom_extract.specs.Touching.{firsts, seconds}
use Rattle.geom_extract.proofs.tied_shapes.TiedShapes.ends.Given as goal

abbrev pub invariant-loop-k : goal.invariant-loop-k
invariant-loop-k l = l.ends.items ≡ range_with_len 0 l.k

abbrev pub invariant-loop-tie : goal.invariant-loop-tie
invariant-loop-tie l = l.ends.items ++ seconds (drop l.tie-index l.ties) ≡ range_with_len 0 l.count ++ seconds l.ties

abbrev pub invariant-loop-tie-2 : goal.invariant-loop-tie-2
invariant-loop-tie-2 l =
    l.ends.items ++ firsts (drop l.tie-index l.ties) ≡ (range_with_len 0 l.count ++ seconds l.ties) ++ firsts l.ties
