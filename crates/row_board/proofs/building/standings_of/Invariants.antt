use Rattle.std.proofs.Common.{◌≡◌, ◌<◌, ℕ, length}
use Rattle.row_board.specs.Standings.{IsEntered}
use Rattle.row_board.proofs.building.standings_of.Given as goal

abbrev pub invariant-loop-row : goal.invariant-loop-row
invariant-loop-row l = record {
  count : length l.standings.items ≡ length l.placed.design.instances;
  entered : (r k : ℕ) → r < l.row → IsEntered l.placed.design l.placed.rows l.standings.items r k;
}
