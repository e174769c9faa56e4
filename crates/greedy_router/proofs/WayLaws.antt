use Rattle.std.proofs.Common.{◌≡◌, ◌++◌, ◌+◌, ℕ, suc, List, ◌∷◌, length, sym, subst, ◌∙◌, Contains}
use Rattle.channel_model.specs.Pins.{Pins}
use Rattle.channel_model.specs.declared.wiring.Segment.{Segment}
use Rattle.channel_model.specs.declared.wiring.Via.{Via}
use Rattle.greedy_column.specs.declared.column.Track.{Track}
use Rattle.greedy_column.specs.declared.column.Column.{Column}
use Rattle.greedy_column.specs.Fair.{AllFair}
use Rattle.greedy_column.specs.Replay.{entered, after, free_tracks, replay_from}
use Rattle.greedy_column.specs.State.{AreNumbered}
use Rattle.greedy_column.specs.Tracks.{ids}
use Rattle.greedy_column.specs.Verticals.{pin_verticals}
use Rattle.greedy_router.specs.declared.by_id.ById.{ById}
use Rattle.greedy_router.specs.SweepWiring.{since_after, column_segments, column_vias, segments_from, vias_from}
use Rattle.greedy_router.specs.Turns.{IsTold, IsTurn}
use Rattle.greedy_router.proofs.CountLaws.{AreNumbered-replay_from}
use Rattle.greedy_router.proofs.OrderLaws.{AreNumbered-after, IsEarlier, IsEarlier-entered, earlier-in, earlier-leb}
use Rattle.greedy_router.proofs.WiringLaws.{segments-more, vias-more}

-- a wiring on its way: the tracks before the columns that are left, what the tables tell of them, and that what these columns add completes it
pub record IsOnWay (pins : Pins) (order : List ℕ) (begun : ℕ) (all : List Column) (column : ℕ) (rest : List Column) (by_id : ById)
    (segments : List Segment) (vias : List Via) : Type 0 where
  pub before : List Track
  pub fresh : ℕ
  pub numbered : AreNumbered fresh before
  pub fair : AllFair pins column fresh before rest
  pub replay : order ≡ ids (replay_from pins column before rest)
  pub since : ℕ → ℕ
  pub told : IsTold order before since by_id
  pub segments_so_far : segments ++ segments_from order pins column before since rest ≡ segments_from order pins 0 (free_tracks begun) (λ id. 0) all
  pub vias_so_far : vias ++ vias_from order pins column before rest ≡ vias_from order pins 0 (free_tracks begun) all

-- what is known of the next column
pub turn_of : (pins : Pins) (order : List ℕ) (column fresh : ℕ) (before : List Track) (done : Column) (later : List Column) → AreNumbered fresh before
    → AllFair pins column fresh before (done ∷ later) → order ≡ ids (replay_from pins column before (done ∷ later)) → IsTurn order pins column before done
turn_of pins order column fresh before done later numbered fair replay =
    let final : List Track = replay_from pins column before (done ∷ later) in
    let earlier : IsEarlier (ids (entered pins column done before)) order =
    subst (λ l. IsEarlier (ids (entered pins column done before)) l) (sym replay) (IsEarlier-entered pins column fresh before done later numbered fair) in
    record {
      fresh = fresh;
      numbered = numbered;
      lawful = fair.0.lawful;
      positive = λ id member.
          (AreNumbered-replay_from pins column fresh before (done ∷ later) numbered fair).positive id (subst (λ l. Contains l id) replay member);
      within = earlier-in (ids (entered pins column done before)) order earlier;
      alike = earlier-leb (ids (entered pins column done before)) order earlier;
    }

-- one column more
pub way-more : (pins : Pins) (order : List ℕ) (begun : ℕ) (all : List Column) (column next : ℕ) (done : Column) (later : List Column) (by_id new : ById)
    (segments more_segments : List Segment) (vias more_vias : List Via) (way : IsOnWay pins order begun all column (done ∷ later) by_id segments vias)
    → next ≡ suc column → IsTold order (after pins column done way.before) (since_after column way.before way.since) new
    → more_segments ≡ segments ++ column_segments order pins column way.before (entered pins column done way.before) way.since done
    → more_vias ≡ vias ++ column_vias order column (entered pins column done way.before) (after pins column done way.before) (pin_verticals pins column done) done
    → IsOnWay pins order begun all next later new more_segments more_vias
way-more pins order begun all column next done later by_id new segments more_segments vias more_vias way one told added also =
    record {
      before = after pins column done way.before;
      fresh = way.fresh + length done.made;
      numbered = AreNumbered-after pins column way.fresh way.before done way.numbered way.fair.0;
      fair = subst (λ n. AllFair pins n (way.fresh + length done.made) (after pins column done way.before) later) (sym one) way.fair.1;
      replay = way.replay ∙ (λ i. ids (replay_from pins (sym one i) (after pins column done way.before) later));
      since = since_after column way.before way.since;
      told = told;
      segments_so_far = segments-more order pins column next way.before way.since done later segments more_segments _ one added way.segments_so_far;
      vias_so_far = vias-more order pins column next way.before done later vias more_vias _ one also way.vias_so_far;
    }
