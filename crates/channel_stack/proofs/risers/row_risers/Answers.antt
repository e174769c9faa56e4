use Rattle.channel_model.specs.Pins.{Pins}
use Rattle.std.proofs.Common.{rules as all_rules, ◌≡◌, ◌∙◌, List, ap, arith, length, subst, IfOk}
use Rattle.wire_geom.specs.declared.drawn.Drawn.{Drawn}
use Rattle.channel_stack.proofs.RowRisers.{along-row, channel-above, channels-counted, row-covered, row-read}
use Rattle.channel_stack.proofs.StackBounds.{heights-counted}
use Rattle.channel_stack.proofs.risers.row_risers.Goals as goal

pub bounds-items-row-2 : goal.bounds-items-row-2
bounds-items-row-2 c =
    let same : c.items-2.result.now ≡ c.args.fed.now.heights = search all_rules in
    omega (arith, ap length same, heights-counted c.args.design.now c.args.fed.now c.requires.fed, c.requires.within)

pub bounds-channels-row : goal.bounds-channels-row
bounds-channels-row c = omega (arith, c.requires.within, channels-counted c.args.design.now c.args.fed.now c.args.channels.now c.requires.channels)

pub risers_along-requires-clause-wide : goal.risers_along-requires-clause-wide
risers_along-requires-clause-wide c =
    let rows : c.items.result.now ≡ c.args.fed.now.rows = search all_rules in
    let items = row-read c.args.fed.now c.items.result.now c.args.row c.index-items-row.result c.items-items.result.now rows c.requires.within c.index-items-row.is c.items-items.ensures in
    let pins =
    channel-above c.args.design.now c.args.fed.now c.args.channels.now c.args.row c.index-channels-row.result c.requires.channels c.requires.within c.index-channels-row.is in
    rw (c.items-3.ensures ∙ ap (λ (p : Pins). p.bottom) (c.above.view_is ∙ pins))
    (row-covered c.args.design.now c.args.fed.now c.requires.fed c.args.row c.items-items.result.now items)

pub returns : goal.returns
returns c =
    let rows : c.items.result.now ≡ c.args.fed.now.rows = search all_rules in
    let heights : c.items-2.result.now ≡ c.args.fed.now.heights = search all_rules in
    let items = row-read c.args.fed.now c.items.result.now c.args.row c.index-items-row.result c.items-items.result.now rows c.requires.within c.index-items-row.is c.items-items.ensures in
    let pins =
    channel-above c.args.design.now c.args.fed.now c.args.channels.now c.args.row c.index-channels-row.result c.requires.channels c.requires.within c.index-channels-row.is in
    let same =
    along-row c.args.rules.now c.args.design.now c.args.fed.now c.args.bases.now c.args.row c.items-2.result.now c.items-3.result.now c.items-items.result.now heights
    (c.items-3.ensures ∙ ap (λ (p : Pins). p.bottom) (c.above.view_is ∙ pins)) items in
    subst (λ (l : List Drawn). IfOk c.risers_along.result (λ risers. risers.items ≡ l)) same c.risers_along.ensures
