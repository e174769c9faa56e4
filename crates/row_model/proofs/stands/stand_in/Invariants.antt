use Rattle.std.proofs.Common.{◌≡◌, ◌+◌, ◌*◌, ◌≤◌, length}
use Rattle.row_model.specs.Stands.{stand_in}
use Rattle.row_model.proofs.stands.stand_in.Given as goal

abbrev pub invariant-loop-seat : goal.invariant-loop-seat
invariant-loop-seat l = record {
  same : stand_in l.design l.row l.left l.rest l.instance ≡ stand_in l.design l.row 0 l.fn.seats l.instance;
  near : l.left + 100000000 * length l.rest ≤ 2000000000000;
}

abbrev pub decreases-loop-seat : goal.decreases-loop-seat
decreases-loop-seat l = length l.rest
