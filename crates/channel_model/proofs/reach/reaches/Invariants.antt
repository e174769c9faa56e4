use Rattle.std.proofs.Common.{◌≡◌, map}
use Rattle.channel_model.specs.Reach.{reach_of}
use Rattle.channel_model.proofs.reach.reaches.Given as goal

abbrev pub invariant-loop-column : goal.invariant-loop-column
invariant-loop-column l = l.reaches.items ≡ map (λ net. reach_of l.side net l.column) l.nets
