use Rattle.std.proofs.Common.{◌≡◌, take}
use Rattle.channel_model.specs.Density.{spans_of}
use Rattle.channel_model.proofs.spans.spans_of.Given as goal

abbrev pub invariant-loop-place : goal.invariant-loop-place
invariant-loop-place l = l.spans.items ≡ spans_of l.channel (take l.place l.nets)
