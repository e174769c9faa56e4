use Rattle.std.proofs.Common.{◌≡◌, ◌+◌, ◌≤◌, length}
use Rattle.row_model.specs.Stands.{stand_from, stand_of}
use Rattle.row_model.specs.NearStands.{AreShort}
use Rattle.row_model.proofs.stands.stand_of.Given as goal

abbrev pub invariant-loop-seats : goal.invariant-loop-seats
invariant-loop-seats l = record {
  same : stand_from l.design l.row l.rest l.instance ≡ stand_of l.placed.design l.placed.rows l.instance;
  few : l.row + length l.rest ≤ 514;
  short : AreShort l.rest;
}

abbrev pub decreases-loop-seats : goal.decreases-loop-seats
decreases-loop-seats l = length l.rest
