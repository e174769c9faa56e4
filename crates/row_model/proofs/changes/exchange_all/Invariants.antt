use Rattle.std.proofs.Common.{◌≡◌, ◌++◌, map, take, drop}
use Rattle.row_model.specs.Changes.{exchanged}
use Rattle.row_model.proofs.changes.exchange_all.Given as goal

abbrev pub invariant-loop-row : goal.invariant-loop-row
invariant-loop-row l = l.rows ≡ map (map (exchanged l.a l.b)) (take l.row-index l.initial.rows) ++ drop l.row-index l.initial.rows
