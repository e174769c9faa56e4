use Rattle.std.proofs.Common.{rules, ◌≡◌, ◌<◌, ◌∙◌, ◌+◌, ◌^◌, subst, sym, ap, arith, get_or, ℕ, List, length}
use Rattle.channel_model.specs.Pins.{IsChannel, Pins}
use Rattle.greedy_column.specs.declared.column.Made.{Made}
use Rattle.greedy_column.specs.declared.column.Track.{Track}
use Rattle.greedy_column.specs.Uses.{next_after}
use Rattle.greedy_column.specs.Held.{held_count}
use Rattle.greedy_column.specs.Replay.{after}
use Rattle.greedy_column.specs.Lines.{AreTracks}
use Rattle.greedy_column.specs.State.{AreNumbered}
use Rattle.greedy_column.proofs.PlacedLaws.{AreTracks-numbered}
use Rattle.greedy_column.proofs.EndsLaws.{column-lessens}
use Rattle.greedy_column.proofs.FairLaws.{Fair-from}
use Rattle.greedy_column.proofs.StateLaws.{AreNumbered-few, Follows-from_copy, IsState-from_copy}
use Rattle.greedy_column.proofs.stepping.step_with.Goals as goal

pub new-before-requires : goal.new-before-requires
new-before-requires g c =
    let tracks = c.args.state.now.order in
    let copied : c.in_ok-from_slice.field-0.items ≡ tracks = search rules in
    let few : length tracks + 2 < 2 ^ 32 = omega (arith, AreNumbered-few c.args.state.now.fresh tracks c.requires.state.numbered, c.requires.few) in
    subst AreTracks (sym copied) (AreTracks-numbered c.args.state.now.fresh tracks c.requires.state.numbered few)

pub column_of-requires-clause-numbered : goal.column_of-requires-clause-numbered
column_of-requires-clause-numbered g c =
    let copied : c.new-before.result ≡ c.args.state.now.order = search rules in
    subst (AreNumbered c.args.state.now.fresh) (sym copied) c.requires.state.numbered

pub column_of-requires-clause-few : goal.column_of-requires-clause-few
column_of-requires-clause-few g c =
    let copied : c.new-before.result ≡ c.args.state.now.order = search rules in
    omega (
      arith,
      ap (λ (l : List Track). length l) copied,
      AreNumbered-few c.args.state.now.fresh c.args.state.now.order c.requires.state.numbered,
      c.requires.few,
    )

pub returns-clause-follows : goal.returns-clause-follows
returns-clause-follows g c =
    let copied : c.new-before.result ≡ c.args.state.now.order = search rules in
    Follows-from_copy c.args.manner _ (next_after c.args.ahead.now.uses.items c.args.column) c.args.channel.now c.args.column c.args.state.now.fresh c.args.state.now.order
    c.new-before.result _ c.pin_in-top.result c.pin_in-bottom.result copied
    (c.pin_in-top.ensures ∙ ap (λ (l : List ℕ). get_or l c.args.column 0) (c.items.ensures ∙ ap (λ (p : Pins). p.top) c.channel.view_is)) (c.pin_in-bottom.ensures ∙ ap (λ (l : List ℕ). get_or l c.args.column 0) (c.items-2.ensures ∙ ap (λ (p : Pins). p.bottom) c.channel.view_is))
    (λ net. c.requires.ahead c.args.column net) c.in_ok-taken.ensures.straight c.in_ok-taken.ensures.enters c.in_ok-taken.ensures.follows

pub returns-clause-fair : goal.returns-clause-fair
returns-clause-fair g c =
    let is : IsChannel c.args.channel.now = search rules in
    Fair-from c.args.manner _ c.args.channel.now c.args.column c.args.state.now.fresh c.args.state.now.order _ is.matched c.requires.state.numbered (returns-clause-follows g c)

pub returns-clause-state : goal.returns-clause-state
returns-clause-state g c =
    let copied : c.new-before.result ≡ c.args.state.now.order = search rules in
    IsState-from_copy c.args.channel.now c.args.column c.args.state.now.fresh c.args.state.now.order c.new-before.result c.in_ok-taken.taken.done
    c.pin_in-top.result c.pin_in-bottom.result copied
    (c.pin_in-top.ensures ∙ ap (λ (l : List ℕ). get_or l c.args.column 0) (c.items.ensures ∙ ap (λ (p : Pins). p.top) c.channel.view_is)) (c.pin_in-bottom.ensures ∙ ap (λ (l : List ℕ). get_or l c.args.column 0) (c.items-2.ensures ∙ ap (λ (p : Pins). p.bottom) c.channel.view_is))
    c.requires.state.numbered c.requires.state.standing (returns-clause-fair g c).lawful.made c.in_ok-taken.taken.tracks _ c.in_ok-taken.ensures.tracks
    (ap (λ (l : List Made). c.args.state.now.fresh + length l) c.items-4.ensures)

pub returns-clause-lessens : goal.returns-clause-lessens
returns-clause-lessens g c = λ past held.
    let is : IsChannel c.args.channel.now = search rules in
    let left : c.in_ok-taken.taken.tracks ≡ after c.args.channel.now c.args.column c.in_ok-taken.taken.done c.args.state.now.order = search rules in
    subst (λ (l : List Track). held_count l < held_count c.args.state.now.order) (sym left)
    (column-lessens c.args.channel.now c.args.column c.args.state.now.fresh c.args.state.now.order c.in_ok-taken.taken.done is.matched c.requires.state.numbered
    (returns-clause-fair g c) past held)
