use Rattle.std.proofs.Common.{◌≡◌, fold, length, map, max}
use Rattle.row_model.specs.Widths.{cell_height}
use Rattle.row_model.specs.declared.rows.Seat.{Seat}
use Rattle.feed_cells.proofs.heights.greatest.Given as goal

abbrev pub invariant-loop-seat : goal.invariant-loop-seat
invariant-loop-seat l =
    fold max l.most (map (λ (s : Seat). cell_height l.design s.instance) l.rest)
    ≡ fold max l.height (map (λ (s : Seat). cell_height l.design s.instance) l.fn.seats)

abbrev pub decreases-loop-seat : goal.decreases-loop-seat
decreases-loop-seat l = length l.rest
