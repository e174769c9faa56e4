use Rattle.std.proofs.Common.{◌≡◌, ◌+◌, ◌++◌, length, map}
use Rattle.std.specs.List.{range_with_len}
use Rattle.pin_assign.specs.Tables.{table_of, tables_of}
use Rattle.pin_assign.proofs.tabling.channels.Given as goal

abbrev pub invariant-loop-after : goal.invariant-loop-after
invariant-loop-after l = record {
  last : l.channel + length l.rest ≡ length l.fed.rows + 1;
  same : l.channels.items ++ map (table_of l.design l.fed) (range_with_len l.channel (length l.rest)) ≡ tables_of l.design l.fed;
}

abbrev pub decreases-loop-after : goal.decreases-loop-after
decreases-loop-after l = length l.rest
