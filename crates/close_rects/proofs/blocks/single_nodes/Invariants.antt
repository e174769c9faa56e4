use Rattle.std.proofs.Common.{◌≡◌, length}
use Rattle.close_rects.proofs.Indexes.{EachSingle}
use Rattle.close_rects.proofs.blocks.single_nodes.Given as goal

abbrev pub invariant-loop-b : goal.invariant-loop-b
invariant-loop-b l = record { len : length l.nodes.items ≡ l.b; each : EachSingle l.items l.nodes.items }
