use Rattle.std.proofs.Common.{◌≡◌, length, map}
use Rattle.std.specs.BTreeSet.{insert_key}
use Rattle.std.specs.List.{fold}
use Rattle.std.specs.Ordering.{int_cmp}
use Rattle.region_cut.specs.Cells.{lines_across}
use Rattle.region_cut.proofs.lines.lines_across.Given as goal

abbrev pub invariant-loop-corner : goal.invariant-loop-corner
invariant-loop-corner l = fold (insert_key int_cmp) l.found.keys (map (λ c. c.x) l.rest) ≡ lines_across l.path

abbrev pub decreases-loop-corner : goal.decreases-loop-corner
decreases-loop-corner l = length l.rest
