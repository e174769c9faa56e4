use Rattle.std.proofs.Common.{◌≡◌, length}
use Rattle.cif_text.specs.Scales.{scaled_corners}
use Rattle.cif_reader.proofs.PolygonLaws.{with_path}
use Rattle.cif_reader.proofs.polygons.scaled_all.Given as goal

abbrev pub invariant-loop-corner : goal.invariant-loop-corner
invariant-loop-corner l =
    with_path l.found.items (scaled_corners l.fn.scale.a l.fn.scale.b l.rest) ≡ scaled_corners l.fn.scale.a l.fn.scale.b l.fn.path

abbrev pub decreases-loop-corner : goal.decreases-loop-corner
decreases-loop-corner l = length l.rest
