use Rattle.std.proofs.Common.{◌≡◌, ◌<◌, ◌+◌, ◌∷◌, ℕ, suc, List, length, ap, arith, add-one, rules, sym, Contains, ◌∙◌, get_or, refl, replicate, subst}
use Rattle.std.proofs.lemmas.List.{get_or-replicate, length-replicate}
use Rattle.channel_model.specs.Pins.{Pins}
use Rattle.greedy_column.specs.declared.column.Track.{Track}
use Rattle.greedy_column.specs.declared.column.Column.{Column}
use Rattle.greedy_column.specs.Tracks.{held_by, ids}
use Rattle.greedy_column.specs.Replay.{free_tracks}
use Rattle.greedy_column.proofs.StateLaws.{IsState-first, nets-free}
use Rattle.greedy_router.specs.Runs.{Ran}
use Rattle.greedy_router.specs.Turns.{IsTurn}
use Rattle.greedy_router.proofs.CourseLaws.{held_by-none}
use Rattle.greedy_router.proofs.WayLaws.{turn_of, way-more}
use Rattle.greedy_router.proofs.wiring.wire_columns.Goals as goal

-- the ids of the final order are below the first that none has
pub new-requires-clause-below : goal.new-requires-clause-below
new-requires-clause-below c id member =
    let within : Contains (ids c.run.inside.state.order) id = subst (λ (l : List Track). Contains (ids l) id) c.items-tracks.ensures member in
    let less = c.run.invariant.below id within in
    search (rules, less)

pub loop-done-init : goal.loop-done-init
loop-done-init c =
    let run = c.run.invariant in
    let room : ℕ = c.run.inside.state.fresh in
    let order : List ℕ = ids c.order.inside.tracks.now in
    let told : order ≡ ids c.items-tracks.result.now = c.order.view_is ∙ c.in_ok-order.ensures in
    let since : c.in_ok-by_id.by_id.since.items ≡ replicate room 0 = c.in_ok-by_id.ensures.since in
    let below : (id : ℕ) → Contains order id → id < room =
    subst (λ (l : List ℕ). (id : ℕ) → Contains l id → id < room) (sym told)
    (subst (λ (l : List Track). (id : ℕ) → Contains (ids l) id → id < room) (sym c.items-tracks.ensures) run.below) in
    let none : (id : ℕ) → held_by (free_tracks c.run.inside.begun) id ≡ 0 = held_by-none (free_tracks c.run.inside.begun) (nets-free c.run.inside.begun) in
    let blank : (table : List ℕ) → table ≡ replicate room 0 → (id : ℕ) → Contains order id → get_or table id 0 ≡ 0 = λ table is id member.
    ap (λ (l : List ℕ). get_or l id 0) is ∙ get_or-replicate {A = ℕ} room id 0 0 (below id member) in
    rw (← c.run.view_is, c.as_slice-rest.ensures.value)
    (record {
      counted = omega arith;
      all = record {
        within = λ id member. let less = below id member in omega (arith, less, ap (λ (l : List ℕ). length l) since, length-replicate {A = ℕ} room 0);
        nets = ap (λ (l : List ℕ). length l) (c.in_ok-by_id.ensures.nets ∙ sym since);
        laters = ap (λ (l : List ℕ). length l) (c.in_ok-by_id.ensures.laters ∙ sym since);
        lefts = c.in_ok-by_id.ensures.lefts ∙ sym (ap (λ (l : List ℕ). length l) since ∙ length-replicate {A = ℕ} room 0);
        ends = c.in_ok-by_id.ensures.ends ∙ sym (ap (λ (l : List ℕ). length l) since ∙ length-replicate {A = ℕ} room 0);
      };
      rounds = record { lefts = omega (arith, c.in_ok-by_id.ensures.lefts_round); ends = omega (arith, c.in_ok-by_id.ensures.ends_round) };
      way = record {
        before = free_tracks c.run.inside.begun;
        fresh = c.run.inside.begun + 1;
        numbered = (IsState-first c.run.inside.begun c.run.inside.surveyed.now.channel.now).numbered;
        fair = run.fair;
        replay = told ∙ ap ids (c.items-tracks.ensures ∙ run.order);
        since = λ id. 0;
        told = record {
          nets = λ id member. blank c.in_ok-by_id.by_id.nets.items c.in_ok-by_id.ensures.nets id member ∙ sym (none id);
          laters = λ id member. blank c.in_ok-by_id.by_id.laters.items c.in_ok-by_id.ensures.laters id member ∙ sym (none id);
          since = λ id member held. blank c.in_ok-by_id.by_id.since.items since id member;
        };
        segments_so_far = rw c.new-2.ensures.items refl;
        vias_so_far = rw c.new-3.ensures.items refl;
      };
    })

pub loop-done-preserved : goal.loop-done-preserved
loop-done-preserved c =
    let done : Column = c.in-Some.done.now in
    let later : List Column = c.in-Some.later.now in
    let order : List ℕ = ids c.order.inside.tracks.now in
    let pins : Pins = c.run.inside.surveyed.now.channel.now in
    let column : ℕ = c.loop-done.column in
    let cut : c.loop-done.rest.now ≡ done ∷ later = search rules in
    let kept = rw cut at c.loop-done.invariant in
    let way = kept.way in
    let one : column + 1 ≡ suc column = add-one column in
    let turn : IsTurn order pins column way.before done = turn_of pins order column way.fresh way.before done later way.numbered way.fair way.replay in
    let made = rw (← c.order.view_is) at c.in_ok-wire.ensures in
    record {
      counted = omega (arith, kept.counted);
      all = made.all;
      rounds = made.rounds;
      way = way-more pins order _ _ column (column + 1) done later c.loop-done.by_id c.wire.new.by_id c.loop-done.wires.segments.items c.wire.new.wires.segments.items
          c.loop-done.wires.vias.items c.wire.new.wires.vias.items way one (made.told way.before way.since turn way.told)
          (made.segments way.before way.since turn way.told) (made.vias way.before way.since turn way.told);
    }

pub invariant_of-turn : goal.invariant_of-turn
invariant_of-turn c =
    let done : Column = c.in-Some.done.now in
    let later : List Column = c.in-Some.later.now in
    let cut : c.loop-done.rest.now ≡ done ∷ later = search rules in
    let kept = rw cut at c.loop-done.invariant in
    let seen = ap (λ (r : Ran). length r.sweep.columns) c.run.view_is in
    record { few_columns = let counted = kept.counted in omega (arith, counted, seen, c.run.invariant.few_columns) }
