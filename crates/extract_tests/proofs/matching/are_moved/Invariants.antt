use Rattle.std.proofs.Common.{◌≡◌, length, map}
use Rattle.geom_core.specs.Moving.{moved_shape}
use Rattle.extract_tests.proofs.matching.are_moved.Given as goal

abbrev pub invariant-loop-shape : goal.invariant-loop-shape
invariant-loop-shape l = l.rest ≡ map (moved_shape l.turn) l.left → l.shapes ≡ map (moved_shape l.turn) l.drawn

abbrev pub decreases-loop-shape : goal.decreases-loop-shape
decreases-loop-shape l = length l.rest
