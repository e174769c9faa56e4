use Rattle.std.proofs.Common.{rules, sym, subst, ◌∙◌, ap}
use Rattle.channel_model.specs.Pins.{IsChannel}
use Rattle.greedy_column.specs.declared.column.Column.{Column}
use Rattle.greedy_column.specs.Follows.{Follows}
use Rattle.greedy_column.specs.Replay.{after}
use Rattle.greedy_column.proofs.FairLaws.{Fair-from}
use Rattle.greedy_router.specs.Idle.{HasNoPins, IsIdleBefore, nothing}
use Rattle.greedy_router.proofs.IdleLaws.{after-nothing, follows-next}
use Rattle.greedy_router.proofs.idle.next_column.Goals as goal

pub returns-then-has_no_pins-clause-follows : goal.returns-then-has_no_pins-clause-follows
returns-then-has_no_pins-clause-follows g c =
    let pins = c.args.surveyed.now.channel.now in
    let state = c.args.state.now in
    let may = g.C.Chooses.answers c.args.chooser.now in
    let idle : IsIdleBefore c.args.manner may pins c.args.column state = search rules in
    let no_pins : HasNoPins pins c.args.column = search rules in
    let again : Follows c.args.manner may pins c.args.column state.fresh state.order nothing =
    subst (λ n. Follows c.args.manner may pins n state.fresh state.order nothing) idle.next
    (follows-next c.args.manner may pins idle.before state.fresh state.order idle.idle.no_pins (subst (HasNoPins pins) (sym idle.next) no_pins) idle.idle.follows) in
    subst (λ (d : Column). Follows c.args.manner may pins c.args.column state.fresh state.order d) (sym c.nothing.ensures) again

pub returns-then-has_no_pins-clause-fair : goal.returns-then-has_no_pins-clause-fair
returns-then-has_no_pins-clause-fair g c =
    let is : IsChannel c.args.surveyed.now.channel.now = search rules in
    Fair-from c.args.manner _ c.args.surveyed.now.channel.now c.args.column c.args.state.now.fresh c.args.state.now.order _ is.matched c.requires.state.numbered
    (returns-then-has_no_pins-clause-follows g c)

pub returns-then-has_no_pins-clause-replay : goal.returns-then-has_no_pins-clause-replay
returns-then-has_no_pins-clause-replay g c =
    let pins = c.args.surveyed.now.channel.now in
    let state = c.args.state.now in
    sym (ap (λ (d : Column). after pins c.args.column d state.order) c.nothing.ensures
    ∙ after-nothing pins c.args.column state.fresh state.order c.requires.state.numbered)
