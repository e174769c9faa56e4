use Rattle.std.proofs.Common.{◌≡◌, ◌≤◌, ◌++◌, ℕ, List, [], ◌∷◌, Bool, true, false, length, refl, sym, subst, arith}
use Rattle.channel_model.specs.Limits.{most_extra, most_tracks}
use Rattle.channel_model.specs.Nets.{nets_of}
use Rattle.channel_model.specs.Pins.{Pins}
use Rattle.channel_model.specs.declared.wiring.Wiring.{Wiring}
use Rattle.choose_core.specs.declared.candidate.Candidate.{Candidate}
use Rattle.choose_core.specs.declared.plan.Manner.{Manner}
use Rattle.greedy_router.specs.Answers.{IsChannelRouted, IsFinished, IsPlanned}
use Rattle.greedy_router.specs.Begun.{begun_of}
use Rattle.greedy_router.specs.Planning.{better}
use Rattle.greedy_router.specs.Runs.{Ran, routed_by, routed_of}
use Rattle.greedy_router.specs.Sweeps.{IsDone}
use Rattle.greedy_router.specs.declared.sweep.Routed.{Routed}
use Rattle.greedy_router.specs.declared.sweep.Sweep.{Sweep}
use Rattle.greedy_router.proofs.GoingLaws.{past-not_done}
use Rattle.greedy_router.proofs.PlanLaws.{planned-given_up, planned-more}

-- a sweep that has ended within some tracks has done so within more
done-wider : (pins : Pins) (few more extra : ℕ) (sweep : Sweep) → few ≤ more → IsDone pins few extra sweep → IsDone pins more extra sweep
done-wider pins few more extra sweep less done = record {
  covers = done.covers;
  needed = done.needed;
  ended = done.ended;
  few_columns = done.few_columns;
  few_tracks = λ n within. let kept = done.few_tracks n within in omega (arith, kept, less);
}

finished-wider : (manner : Manner) (begun : ℕ) (may : List Candidate → ℕ → Type 0) (pins : Pins) (few more extra : ℕ) (sweep : Sweep) (wiring : Wiring)
    → few ≤ more → IsFinished manner begun may pins few extra sweep wiring → IsFinished manner begun may pins more extra sweep wiring
finished-wider manner begun may pins few more extra sweep wiring less is =
    let done = done-wider pins few more extra sweep less is.done in
    record {
      sweep_of = is.sweep_of;
      done = done;
      not_past = λ past. past-not_done pins more extra sweep past done;
      stated = is.stated;
      wired = is.wired;
    }

-- one sweep more, within as many tracks as the best before it has: past these it is given up, and else the better of the two is kept
pub planned-next : (manner : Manner) (may : List Candidate → ℕ → Type 0) (pins : Pins) (first : ℕ) (others : List ℕ) (share : ℕ) (best : Routed) (one : Ran)
    → IsPlanned (record { manner = manner; first = first; others = others }) may pins best
    → best.wiring.tracks ≤ most_tracks (length (nets_of pins))
    → IsChannelRouted manner (begun_of share pins) may pins best.wiring.tracks (most_extra (length (nets_of pins))) (routed_of one)
    → (next : Routed) → (one.over ≡ true → next ≡ best) → (one.over ≡ false → next ≡ better best (routed_of one))
    → IsPlanned (record { manner = manner; first = first; others = others ++ share ∷ [] }) may pins next
planned-next manner may pins first others share best one was few routed next kept new = step one.over one.pins one.sweep routed kept new where
  step : (over : Bool) (own : Pins) (sweep : Sweep)
      → IsChannelRouted manner (begun_of share pins) may pins best.wiring.tracks (most_extra (length (nets_of pins))) (routed_by over own sweep)
      → (over ≡ true → next ≡ best) → (over ≡ false → next ≡ better best (routed_by over own sweep))
      → IsPlanned (record { manner = manner; first = first; others = others ++ share ∷ [] }) may pins next
  step true own sweep routed kept new =
      subst (λ (r : Routed). IsPlanned (record { manner = manner; first = first; others = others ++ share ∷ [] }) may pins r) (sym (kept refl))
      (planned-given_up manner may pins first others share best was sweep routed.0 few)
  step false own sweep routed kept new =
      subst (λ (r : Routed). IsPlanned (record { manner = manner; first = first; others = others ++ share ∷ [] }) may pins r) (sym (new refl))
      (planned-more manner may pins first others share best was (routed_by false own sweep)
      (finished-wider manner (begun_of share pins) may pins best.wiring.tracks (most_tracks (length (nets_of pins))) (most_extra (length (nets_of pins))) sweep
      (routed_by false own sweep).wiring few routed))
