use Rattle.std.proofs.Common.{◌≡◌, ◌-◌}
use Rattle.feed_cells.specs.Placement.{nets_among}
use Rattle.feed_cells.proofs.placement.net_places.Given as goal

abbrev pub invariant-loop-net : goal.invariant-loop-net
invariant-loop-net l = l.nets.items ≡ nets_among l.pins (l.net - 1)
