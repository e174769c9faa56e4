use Rattle.std.proofs.Common.{◌≡◌, ◌+◌, ◌*◌, ◌≤◌, length}
use Rattle.row_model.specs.Widths.{row_width}
use Rattle.row_board.proofs.row_lengths.row_width.Given as goal

abbrev pub invariant-loop-seat : goal.invariant-loop-seat
invariant-loop-seat l = record {
  same : l.width + row_width l.design l.rest ≡ row_width l.design l.fn.seats;
  near : l.width + 100000000 * length l.rest ≤ 2000000000000;
}

abbrev pub decreases-loop-seat : goal.decreases-loop-seat
decreases-loop-seat l = length l.rest
