use Rattle.std.proofs.Common.{◌≡◌, ◌<◌, ◌+◌, ◌^◌, ◌++◌, length}
use Rattle.channel_stack.specs.Risers.{risers_over}
use Rattle.channel_stack.proofs.risers.push_risers.Given as goal

abbrev pub invariant-loop-net : goal.invariant-loop-net
invariant-loop-net l = record {
  near : l.column + length l.rest < 2 ^ 32;
  so_far : l.risers.items ++ risers_over l.rules l.low l.high l.column l.rest ≡ l.initial.risers.items ++ risers_over l.rules l.low l.high l.first l.nets;
}

abbrev pub decreases-loop-net : goal.decreases-loop-net
decreases-loop-net l = length l.rest
