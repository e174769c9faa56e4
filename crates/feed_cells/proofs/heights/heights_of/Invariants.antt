use Rattle.std.proofs.Common.{◌≡◌, ◌++◌, drop}
use Rattle.feed_cells.specs.Fed.{heights_of}
use Rattle.feed_cells.proofs.heights.heights_of.Given as goal

abbrev pub invariant-loop-row : goal.invariant-loop-row
invariant-loop-row l = l.heights.items ++ heights_of l.design (drop l.row-index l.rows) ≡ heights_of l.design l.rows
