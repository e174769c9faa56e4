use Rattle.std.proofs.Common.{◌≡◌, filter, take}
use Rattle.channel_model.specs.Density.{is_over}
use Rattle.left_edge.specs.Spans.{span}
use Rattle.left_edge.proofs.spans.nets_over.Given as goal

abbrev pub invariant-loop-place : goal.invariant-loop-place
invariant-loop-place l = l.over.items ≡ filter (λ net. is_over l.column (span l.spanned.channel.now net)) (take l.place l.spanned.nets.now)
