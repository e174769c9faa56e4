use Rattle.std.proofs.Common.{◌≡◌, ℕ, Some, length}
use Rattle.std.specs.Prelude.{slice_get}
use Rattle.channel_model.specs.Pins.{Pins}
use Rattle.greedy_router.specs.declared.sweep.Routed.{Routed}
use Rattle.greedy_router.specs.Answers.{IsRoutedAs}
use Rattle.greedy_router.proofs.channels.route_all.Given as goal

abbrev pub invariant-loop-channel : goal.invariant-loop-channel
invariant-loop-channel g l = record {
  each : length l.routed.items ≡ l.channel-index;
  within : (k : ℕ) (pins : Pins) (one : Routed) → slice_get l.channels k ≡ Some pins → slice_get l.routed.items k ≡ Some one
      → IsRoutedAs l.edge l.plan (g.C.Chooses.answers l.chooser) pins one;
  goes : g.W.Watch.goes l.fn.watch l.watch;
}
