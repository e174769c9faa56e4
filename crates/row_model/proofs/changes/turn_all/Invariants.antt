use Rattle.std.proofs.Common.{◌≡◌, ◌++◌, map, take, drop}
use Rattle.row_model.specs.Changes.{turned}
use Rattle.row_model.proofs.changes.turn_all.Given as goal

abbrev pub invariant-loop-row : goal.invariant-loop-row
invariant-loop-row l = l.rows ≡ map (map (turned l.instance)) (take l.row-index l.initial.rows) ++ drop l.row-index l.initial.rows
