use Rattle.std.proofs.Common.{◌≡◌, [], length}
use Rattle.netlist_core.specs.Cells.{clashes}
use Rattle.netlist_core.proofs.positions.has_clash.Given as goal

abbrev pub invariant-loop-position : goal.invariant-loop-position
invariant-loop-position l = clashes l.points.keys l.rest ≡ clashes [] l.positions

abbrev pub decreases-loop-position : goal.decreases-loop-position
decreases-loop-position l = length l.rest
