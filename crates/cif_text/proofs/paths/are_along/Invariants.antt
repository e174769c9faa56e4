use Rattle.std.proofs.Common.{◌≡◌, length}
use Rattle.region_cut.specs.Steps.{steps_from}
use Rattle.cif_text.specs.Paths.{are_along}
use Rattle.cif_text.proofs.paths.are_along.Given as goal

abbrev pub invariant-loop-next : goal.invariant-loop-next
invariant-loop-next l = are_along (steps_from l.fn.from l.fn.others) ≡ are_along (steps_from l.here l.rest)

abbrev pub decreases-loop-next : goal.decreases-loop-next
decreases-loop-next l = length l.rest
