use Rattle.std.proofs.Common.{cond, false, not}
use Rattle.region_cut.specs.Cells.{stands_left}
use Rattle.region_cut.specs.Grids.{line}
use Rattle.region_cut.proofs.CellLaws.{Changing}
use Rattle.region_cut.proofs.edges.flip.Given as goal

abbrev pub invariant-loop-column : goal.invariant-loop-column
invariant-loop-column l =
    Changing (λ k b. cond (stands_left (line l.across k) l.heights.low l.heights.high (record { from = l.from; to = l.to })) (not b) b) false l.column l.initial.cells l.cells
