-- what the calls answer
use Rattle.std.specs.Prelude.{◌≡◌, ◌⊎◌, ◌<◌, ◌≤◌, ◌+◌, ◌++◌, Bool, true, false, ℕ, List, [], ◌∷◌, length, slice_get, Option, Some, None}
use Rattle.channel_model.specs.Density.{density_of}
use Rattle.channel_model.specs.Limits.{most_tracks, most_extra}
use Rattle.channel_model.specs.Nets.{nets_of}
use Rattle.channel_model.specs.Pins.{Pins}
use Rattle.channel_model.specs.Wired.{Wired}
use Rattle.channel_model.specs.declared.wiring.Wiring.{Wiring}
use Rattle.choose_core.specs.declared.candidate.Candidate.{Candidate}
use Rattle.choose_core.specs.declared.plan.Manner.{Manner}
use Rattle.choose_core.specs.declared.plan.Plan.{Plan}
use Rattle.left_edge.specs.Columns.{IsConstrained, IsUnconstrained}
use Rattle.left_edge.specs.EdgeWiring.{edge_wiring}
use Rattle.left_edge.specs.Single.{IsLeast, IsSingle}
use Rattle.plain_router.specs.Plain.{plain_of}
use Rattle.greedy_column.specs.declared.column.Column.{Column}
use Rattle.greedy_router.specs.declared.sweep.By.{By}
use Rattle.greedy_router.specs.declared.sweep.By.TheVariants.{Greedy, Plain, Edge}
use Rattle.greedy_router.specs.declared.sweep.Routed.{Routed}
use Rattle.greedy_router.specs.declared.sweep.Sweep.{Sweep}
use Rattle.greedy_router.specs.declared.sweep.Swept.{Swept}
use Rattle.greedy_router.specs.declared.sweep.Swept.TheVariants.{Finished, Over}
use Rattle.greedy_router.specs.Begun.{begun_of}
use Rattle.greedy_router.specs.Sweeps.{IsSweep, IsDone, IsPast}
use Rattle.greedy_router.specs.SweepWiring.{wiring_of}

-- a sweep that has ended and its wiring, which connects the channel
pub record IsFinished (manner : Manner) (begun : ℕ) (may : List Candidate → ℕ → Type 0) (pins : Pins) (tracks extra : ℕ) (sweep : Sweep)
    (wiring : Wiring) : Type 0 where
  pub sweep_of : IsSweep manner begun may pins sweep
  pub done : IsDone pins tracks extra sweep
  pub not_past : IsPast pins tracks extra sweep → ⊥
  pub stated : wiring ≡ wiring_of pins sweep
  pub wired : Wired pins wiring

-- a sweep that is past its limits
pub record IsOver (manner : Manner) (begun : ℕ) (may : List Candidate → ℕ → Type 0) (pins : Pins) (tracks extra : ℕ) (sweep : Sweep) : Type 0 where
  pub sweep_of : IsSweep manner begun may pins sweep
  pub past : IsPast pins tracks extra sweep
  pub not_done : IsDone pins tracks extra sweep → ⊥

-- how a sweep within these limits may end, which is in a manner and begins with so many free tracks
abbrev pub IsSwept : Manner → ℕ → (List Candidate → ℕ → Type 0) → Pins → ℕ → ℕ → Swept → Type 0
IsSwept manner begun may pins tracks extra (Finished sweep wiring) = IsFinished manner begun may pins tracks extra sweep wiring
IsSwept manner begun may pins tracks extra (Over sweep) = IsOver manner begun may pins tracks extra sweep

-- the sweep that has been made
abbrev pub sweep_of : Swept → Sweep
sweep_of (Finished sweep wiring) = sweep
sweep_of (Over sweep) = sweep

-- a channel is routed by the sweep where that has ended, and by the plain router exactly where the sweep is past its limits
abbrev pub IsRoutedBy : By → Manner → ℕ → (List Candidate → ℕ → Type 0) → Pins → ℕ → ℕ → Sweep → Wiring → Type 0
IsRoutedBy Greedy manner begun may pins tracks extra sweep wiring = IsFinished manner begun may pins tracks extra sweep wiring
IsRoutedBy Plain manner begun may pins tracks extra sweep wiring = IsOver manner begun may pins tracks extra sweep × (wiring ≡ plain_of pins)
IsRoutedBy Edge manner begun may pins tracks extra sweep wiring = ⊥

abbrev pub IsChannelRouted : Manner → ℕ → (List Candidate → ℕ → Type 0) → Pins → ℕ → ℕ → Routed → Type 0
IsChannelRouted manner begun may pins tracks extra routed =
    IsRoutedBy routed.by manner begun may pins tracks extra routed.sweep routed.wiring

-- a wiring within what a router may take for its channel
pub record IsWithinLimits (pins : Pins) (wiring : Wiring) : Type 0 where
  pub tracks : wiring.tracks ≤ most_tracks (length (nets_of pins))
  pub columns : wiring.columns ≤ length pins.top + most_extra (length (nets_of pins))

-- a channel is routed by a sweep of this manner and share, within what a router may take for its nets
abbrev pub IsRoutedWithin : Manner → (List Candidate → ℕ → Type 0) → Pins → ℕ → Routed → Type 0
IsRoutedWithin manner may pins share one =
    IsChannelRouted manner (begun_of share pins) may pins (most_tracks (length (nets_of pins))) (most_extra (length (nets_of pins))) one

-- a wiring has fewer tracks than another, or as many and fewer columns
abbrev pub IsSmaller : Wiring → Wiring → Type 0
IsSmaller one other = (one.tracks < other.tracks) ⊎ ((one.tracks ≡ other.tracks) × (one.columns < other.columns))

-- The sweep of a share is given up: it is past its limits with no fewer tracks than these, and no more than a router may take.
pub record IsGivenUp (manner : Manner) (may : List Candidate → ℕ → Type 0) (pins : Pins) (share fewest : ℕ) : Type 0 where
  pub tracks : ℕ
  pub sweep : Sweep
  pub over : IsOver manner (begun_of share pins) may pins tracks (most_extra (length (nets_of pins))) sweep
  pub enough : fewest ≤ tracks
  pub within : tracks ≤ most_tracks (length (nets_of pins))

-- what the sweep of a share comes to: it routes the channel, or it is given up, beside a wiring of so many tracks
abbrev pub IsTried : Manner → (List Candidate → ℕ → Type 0) → Pins → ℕ → ℕ → Option Routed → Type 0
IsTried manner may pins fewest share (Some one) = IsRoutedWithin manner may pins share one
IsTried manner may pins fewest share None = IsGivenUp manner may pins share fewest

-- what the sweeps of these shares come to, one for each
pub record AreTried (manner : Manner) (may : List Candidate → ℕ → Type 0) (pins : Pins) (fewest : ℕ) (shares : List ℕ) (tried : List (Option Routed)) : Type 0 where
  pub each : length tried ≡ length shares
  pub tries : (k share : ℕ) (one : Option Routed) → slice_get shares k ≡ Some share → slice_get tried k ≡ Some one → IsTried manner may pins fewest share one

-- of those that were not given up the first of the smallest
pub record IsBest (tried : List (Option Routed)) (one : Routed) : Type 0 where
  pub place : ℕ
  pub there : slice_get tried place ≡ Some (Some one)
  pub smallest : (k : ℕ) (other : Routed) → slice_get tried k ≡ Some (Some other) → IsSmaller other.wiring one.wiring → ⊥
  pub first : (k : ℕ) (other : Routed) → slice_get tried k ≡ Some (Some other) → k < place → IsSmaller one.wiring other.wiring

-- A channel is routed by the best of the sweeps that a plan tries. A sweep that has more tracks than the best before it is given up.
pub record IsPlanned (plan : Plan) (may : List Candidate → ℕ → Type 0) (pins : Pins) (one : Routed) : Type 0 where
  pub tried : List (Option Routed)
  pub are_tried : AreTried plan.manner may pins one.wiring.tracks (plan.first ∷ plan.others) tried
  pub best : IsBest tried one

-- a sweep goes on as another one began: with its columns, and then others
pub record GoesOn (made longer : Sweep) : Type 0 where
  pub rest : List Column
  pub columns : longer.columns ≡ made.columns ++ rest

-- a sweep of a share was made, and however it goes on, the channel is routed by it with no fewer tracks than these
pub record HasNoFewer (manner : Manner) (may : List Candidate → ℕ → Type 0) (pins : Pins) (fewest share : ℕ) : Type 0 where
  pub made : Sweep
  pub is_sweep : IsSweep manner (begun_of share pins) may pins made
  pub no_fewer : (one : Routed) → IsRoutedWithin manner may pins share one → GoesOn made one.sweep → fewest ≤ one.wiring.tracks

-- no sweep of a plan has fewer tracks than these
pub record AreFewest (plan : Plan) (may : List Candidate → ℕ → Type 0) (pins : Pins) (fewest : ℕ) : Type 0 where
  pub each : (k share : ℕ) → slice_get (plan.first ∷ plan.others) k ≡ Some share → HasNoFewer plan.manner may pins fewest share

-- a channel without vertical constraints is routed by the left edges of its nets, and without a sweep: no wiring with one Along for each
-- net has fewer tracks
pub record IsEdgeRouted (pins : Pins) (one : Routed) : Type 0 where
  pub by_edge : one.by ≡ Edge
  pub stated : one.wiring ≡ edge_wiring pins
  pub swept : one.sweep ≡ record { begun = 0; columns = []; order = [] }
  pub single : IsSingle pins one.wiring
  pub tracks : one.wiring.tracks ≡ density_of pins
  pub columns : one.wiring.columns ≡ length pins.top
  pub least : IsLeast pins one.wiring.tracks

-- a channel is routed by the left edges where that is asked for and it has no vertical constraint, and else as is said
pub record IsRoutedOr (edge : Bool) (otherwise : Routed → Type 0) (pins : Pins) (one : Routed) : Type 0 where
  pub by_edge : edge ≡ true → IsUnconstrained pins → IsEdgeRouted pins one
  pub constrained : edge ≡ true → (column : ℕ) → IsConstrained pins column → otherwise one
  pub unasked : edge ≡ false → otherwise one

-- a channel is routed as a plan says, by a sweep of no more tracks than any other of the plan, within what a router may take for its nets,
-- and its wiring connects it
pub record IsRoutedAs (edge : Bool) (plan : Plan) (may : List Candidate → ℕ → Type 0) (pins : Pins) (one : Routed) : Type 0 where
  pub routed : IsRoutedOr edge (IsPlanned plan may pins) pins one
  pub fewest : (one.by ≡ Edge → ⊥) → AreFewest plan may pins one.wiring.tracks
  pub wired : Wired pins one.wiring
  pub within : IsWithinLimits pins one.wiring

-- so is each of some channels
pub record AreRouted (edge : Bool) (plan : Plan) (may : List Candidate → ℕ → Type 0) (channels : List Pins) (routed : List Routed) : Type 0 where
  pub each : length routed ≡ length channels
  pub within : (k : ℕ) (pins : Pins) (one : Routed) → slice_get channels k ≡ Some pins → slice_get routed k ≡ Some one
      → IsRoutedAs edge plan may pins one
