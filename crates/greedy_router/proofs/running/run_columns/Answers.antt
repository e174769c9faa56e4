use Rattle.std.proofs.Common.{◌≡◌, ◌+◌, ◌++◌, ◌∷◌, List, [], true, false, length, length-append, ap, arith, rules, refl, sym, subst, ◌∙◌}
use Rattle.channel_model.specs.Pins.{IsChannel}
use Rattle.greedy_column.specs.declared.column.Column.{Column}
use Rattle.greedy_column.specs.declared.column.Track.{Track}
use Rattle.greedy_column.specs.Tracks.{ids}
use Rattle.greedy_router.specs.Answers.{IsChannelRouted}
use Rattle.greedy_router.specs.Runs.{routed_of}
use Rattle.greedy_router.specs.Running.{is_going, is_past}
use Rattle.greedy_router.proofs.SweepLaws.{fresh_after-push}
use Rattle.greedy_router.proofs.EndedLaws.{run-columns, run-lessens, run-routed, run-tracks}
use Rattle.greedy_router.proofs.GoingLaws.{IsRun-first, IsRun-push}
use Rattle.greedy_router.proofs.IdleLaws.{idle-next}
use Rattle.greedy_router.proofs.FewLaws.{fresh-few, columns-few}
use Rattle.greedy_router.proofs.FewerLaws.{sweep-lessens}
use Rattle.greedy_router.proofs.running.run_columns.Goals as goal

pub columns-init : goal.columns-init
columns-init g c =
    rw (c.new-columns.ensures.items, c.in_ok-state.ensures.first)
    (record {
      run = IsRun-first _ c.begun-begun.result _ c.args.surveyed.now.channel.now c.args.limits.tracks c.args.limits.extra (search rules);
      state = rw c.in_ok-state.ensures.first at (c.in_ok-state.ensures.state c.args.surveyed.now.channel.now);
      fresh = refl;
      idle = λ yes. absurd (cc yes);
    })

pub overflow_cast-column : goal.overflow_cast-column
overflow_cast-column g c =
    let pins = c.args.surveyed.now.channel.now in
    let is : IsChannel pins = search rules in
    let fair = c.columns.invariant.run.fair in
    let few = columns-few c.begun-begun.result pins c.columns.columns.items (sweep-lessens pins (record { begun = c.begun-begun.result; columns = c.columns.columns.items; order = [] }) is fair) c.columns.invariant.run.needed is c.begun-begun.ensures.few fair in
    omega (arith, few, c.len-column.ensures)

pub next_column-requires-clause-few : goal.next_column-requires-clause-few
next_column-requires-clause-few g c =
    let is : IsChannel c.args.surveyed.now.channel.now = search rules in
    let few = fresh-few c.begun-begun.result c.args.surveyed.now.channel.now c.columns.columns.items is c.begun-begun.ensures.few c.columns.invariant.run.fair in
    omega (arith, few, c.columns.invariant.fresh)

pub columns-preserved : goal.columns-preserved
columns-preserved g c =
    let done : Column = c.in_ok-done.done in
    let pins = c.args.surveyed.now.channel.now in
    let begun = c.begun-begun.result in
    let most = c.args.limits.tracks in
    let extra = c.args.limits.extra in
    let columns : List Column = c.columns.columns.items in
    let going : is_going c.columns.state.order (length columns) (length pins.top) (length pins.top + extra) most ≡ true = search rules in
    let place : c.len-column.result ≡ length columns = search rules in
    let made = rw place at c.in_ok-done.ensures in
    let more : c.push.new.self.items ≡ columns ++ done ∷ [] = search rules in
    rw more
    (record {
      run = IsRun-push _ begun _ pins most extra columns c.columns.state.fresh c.columns.state.order c.columns.invariant.run done
          c.next_column.new.state.order c.next_column.new.state.fresh going c.columns.invariant.fresh made.follows made.fair made.replay made.state.numbered;
      state = made.state;
      idle = λ yes. record {
        before = length columns;
        next = sym (length-append columns (done ∷ []));
        idle = idle-next c.args.start.manner _ pins (length columns) c.columns.state c.next_column.new.state done c.columns.invariant.state.numbered
            (rw place at (c.is_idle-idle.ensures.no_pins yes)) (c.is_idle-idle.ensures.nothing yes) made.follows made.replay made.fresh;
      };
      fresh = made.fresh ∙ ap (λ n. n + length done.made) c.columns.invariant.fresh ∙ sym (fresh_after-push (begun + 1) columns done);
    })

pub invariant_of-result : goal.invariant_of-result
invariant_of-result g c =
    let run = c.columns.invariant.run in
    let low = c.begun-begun.ensures.few in
    let few_tracks = run-tracks _ c.begun-begun.result _ c.args.surveyed.now.channel.now c.args.limits.tracks c.args.limits.extra c.columns.columns.items _ c.columns.state.order run low in
    let few_columns = run-columns _ c.begun-begun.result _ c.args.surveyed.now.channel.now c.args.limits.tracks c.args.limits.extra c.columns.columns.items _ c.columns.state.order run low in
    record {
      low = low;
      fair = run.fair;
      order = run.order;
      below = run.numbered.below;
      few_tracks = omega (arith, few_tracks);
      few_columns = omega (arith, few_columns);
    }

pub returns-clause-routed : goal.returns-clause-routed
returns-clause-routed g c =
    let pins = c.args.surveyed.now.channel.now in
    let most = c.args.limits.tracks in
    let extra = c.args.limits.extra in
    let columns : List Column = c.columns.columns.items in
    let tracks : List Track = c.columns.state.order in
    let over : c.is_past-over.result ≡ is_past tracks (length columns) (length pins.top + extra) most = search rules in
    let stopped : is_going tracks (length columns) (length pins.top) (length pins.top + extra) most ≡ false = search rules in
    subst
    (λ n. IsChannelRouted c.args.start.manner n (g.C.Chooses.answers c.args.chooser.now) pins most extra
    (routed_of (record { pins = pins; over = c.is_past-over.result; sweep = record { begun = c.begun-begun.result; columns = columns; order = ids tracks } })))
    c.begun-begun.ensures.begun
    (run-routed _ c.begun-begun.result _ pins most extra columns _ tracks c.columns.invariant.run c.is_past-over.result over stopped)

pub returns-clause-lessens : goal.returns-clause-lessens
returns-clause-lessens g c =
    run-lessens _ c.begun-begun.result _ c.args.surveyed.now.channel.now c.args.limits.tracks c.args.limits.extra c.columns.columns.items _
    c.columns.state.order c.columns.invariant.run
