use Rattle.std.proofs.Common.{◌≡◌, length}
use Rattle.std.specs.List.{AllByRecursion}
use Rattle.cif_text.specs.Paths.{corners_of}
use Rattle.cif_text.specs.Printable.{IsNearCorner}
use Rattle.cif_text.proofs.PathLaws.{behind}
use Rattle.cif_text.proofs.paths.corners_at.Given as goal

abbrev pub invariant-loop-rest : goal.invariant-loop-rest
invariant-loop-rest l =
    (behind l.path.items (corners_of (length l.rest) l.rest) ≡ corners_of (length l.fn.bytes) l.fn.bytes) × AllByRecursion IsNearCorner l.path.items

abbrev pub decreases-loop-rest : goal.decreases-loop-rest
decreases-loop-rest l = length l.rest
