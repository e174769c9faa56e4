use Rattle.std.proofs.Common.{◌≡◌, ◌≤◌, ◌+◌, ℕ, List, Bool, true, false, length, refl, ap, arith}
use Rattle.std.proofs.lemmas.List.{length-map}
use Rattle.channel_model.specs.Limits.{most_extra, most_tracks}
use Rattle.channel_model.specs.Nets.{nets_of}
use Rattle.channel_model.specs.Pins.{IsChannel, Pins}
use Rattle.channel_model.specs.Wired.{Wired}
use Rattle.channel_model.specs.declared.wiring.Wiring.{Wiring}
use Rattle.choose_core.specs.declared.candidate.Candidate.{Candidate}
use Rattle.choose_core.specs.declared.plan.Manner.{Manner}
use Rattle.greedy_column.specs.declared.column.Track.{Track}
use Rattle.greedy_column.specs.Replay.{replay}
use Rattle.plain_router.proofs.WiredLaws.{wired_from_stated}
use Rattle.greedy_router.specs.Answers.{IsChannelRouted, IsRoutedBy, IsSwept, IsWithinLimits}
use Rattle.greedy_router.specs.Runs.{routed_by, swept_by}
use Rattle.greedy_router.specs.declared.sweep.By.{By}
use Rattle.greedy_router.specs.declared.sweep.By.TheVariants.{Greedy, Plain, Edge}
use Rattle.greedy_router.specs.declared.sweep.Routed.{Routed}
use Rattle.greedy_router.specs.declared.sweep.Sweep.{Sweep}
use Rattle.greedy_router.proofs.SweepLaws.{tracks_after-all}

module _ (manner : Manner) (begun : ℕ) (may : List Candidate → ℕ → Type 0) (pins : Pins) (most extra : ℕ) where
  -- how a sweep ended by which a channel is routed
  pub routed-swept : (over : Bool) (own : Pins) (sweep : Sweep) → IsChannelRouted manner begun may pins most extra (routed_by over own sweep)
      → IsSwept manner begun may pins most extra (swept_by over own sweep)
  routed-swept true own sweep routed = routed.0
  routed-swept false own sweep routed = routed

  -- the wiring connects the channel
  pub routed-wired : (one : Routed) → IsChannel pins → IsChannelRouted manner begun may pins most extra one → Wired pins one.wiring
  routed-wired one is routed = step one.by one.sweep one.wiring routed where
    step : (by : By) (sweep : Sweep) (wiring : Wiring) → IsRoutedBy by manner begun may pins most extra sweep wiring → Wired pins wiring
    step Greedy sweep wiring done = done.wired
    step Plain sweep wiring (over, stated) = wired_from_stated pins wiring is stated
    step Edge sweep wiring none = absurd none

  -- and is within what a router may take, where the sweep's limits are
  pub routed-within : (one : Routed) → most ≡ most_tracks (length (nets_of pins)) → extra ≡ most_extra (length (nets_of pins))
      → IsChannelRouted manner begun may pins most extra one → IsWithinLimits pins one.wiring
  routed-within one tracks columns routed = step one.by one.sweep one.wiring routed where
    step : (by : By) (sweep : Sweep) (wiring : Wiring) → IsRoutedBy by manner begun may pins most extra sweep wiring → IsWithinLimits pins wiring
    step Greedy sweep wiring done =
        let columns_taken : ℕ = length sweep.columns in
        let last = done.done.few_tracks columns_taken (omega arith) in
        let all = ap (λ (l : List Track). length l) (tracks_after-all sweep.begun pins sweep.columns columns_taken refl) in
        let order = ap (λ (l : List ℕ). length l) done.sweep_of.order in
        let tracks_left : length sweep.order ≤ most_tracks (length (nets_of pins)) =
        omega (arith, last, all, order, length-map (replay sweep.begun pins sweep.columns) (λ (t : Track). t.id), tracks) in
        let columns_left : length sweep.columns ≤ length pins.top + most_extra (length (nets_of pins)) = omega (arith, done.done.few_columns, columns) in
        rw done.stated (record { tracks = tracks_left; columns = columns_left })
    step Plain sweep wiring (over, stated) = rw stated (record { tracks = omega arith; columns = omega arith })
    step Edge sweep wiring none = absurd none
