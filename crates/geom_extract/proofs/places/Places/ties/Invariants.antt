use Rattle.std.proofs.Common.{◌≡◌}
use Rattle.geom_extract.specs.CellTies.{ties_among}
use Rattle.geom_extract.proofs.places.Places.ties.Given as goal

abbrev pub invariant-loop-n : goal.invariant-loop-n
invariant-loop-n l = l.ties.items ≡ ties_among l.self.design l.self.starts l.n
