use Rattle.std.proofs.Common.{◌≡◌, ◌++◌}
use Rattle.geom_extract.specs.CellTies.{ties_in}
use Rattle.geom_extract.proofs.cell_ties.push_ties.Given as goal

abbrev pub invariant-loop-place : goal.invariant-loop-place
invariant-loop-place l = l.ties.items ≡ l.initial.ties.items ++ ties_in l.start l.positions l.place
