use Rattle.std.proofs.Common.{◌≡◌, ◌++◌, length}
use Rattle.std.specs.List.{flat_map}
use Rattle.pin_assign.specs.Tabled.{tabled_entries}
use Rattle.pin_assign.proofs.entries.row_entries.Given as goal

abbrev pub invariant-loop-item : goal.invariant-loop-item
invariant-loop-item l = l.entries.items ++ flat_map (tabled_entries l.design l.table l.top l.channel) l.rest ≡ flat_map (tabled_entries l.design l.table l.top l.channel) l.fn.items

abbrev pub decreases-loop-item : goal.decreases-loop-item
decreases-loop-item l = length l.rest
