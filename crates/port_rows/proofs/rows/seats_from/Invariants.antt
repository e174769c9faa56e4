use Rattle.std.proofs.Common.{◌≡◌}
use Rattle.row_model.specs.Start.{seats_from}
use Rattle.port_rows.proofs.rows.seats_from.Given as goal

abbrev pub invariant-loop-n : goal.invariant-loop-n
invariant-loop-n l = l.seats.items ≡ seats_from l.first l.n
