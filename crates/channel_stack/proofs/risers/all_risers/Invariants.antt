use Rattle.std.proofs.Common.{◌≡◌, ◌+◌, ◌++◌, length, map}
use Rattle.std.specs.List.{range_with_len}
use Rattle.channel_stack.specs.Risers.{all_risers, row_risers}
use Rattle.channel_stack.proofs.risers.all_risers.Given as goal

abbrev pub invariant-loop-after : goal.invariant-loop-after
invariant-loop-after l = record {
  last : l.row + length l.rest ≡ length l.fed.rows;
  same : l.risers.items ++ map (row_risers l.rules l.design l.fed l.bases) (range_with_len l.row (length l.rest)) ≡ all_risers l.rules l.design l.fed l.bases;
}

abbrev pub decreases-loop-after : goal.decreases-loop-after
decreases-loop-after l = length l.rest
