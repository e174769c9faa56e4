use Rattle.std.proofs.Common.{◌≡◌, ◌++◌, drop, map}
use Rattle.geom_extract.specs.CellTies.{first_places}
use Rattle.geom_extract.proofs.places.all_first_places.Given as goal

abbrev pub invariant-loop-kind : goal.invariant-loop-kind
invariant-loop-kind l = l.tables.items ++ map first_places (drop l.kind-index l.kinds) ≡ map first_places l.kinds
