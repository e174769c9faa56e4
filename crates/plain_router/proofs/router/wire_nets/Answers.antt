use Rattle.std.proofs.Common.{◌≡◌, ◌∙◌, ap}
use Rattle.channel_model.specs.Pins.{Pins}
use Rattle.channel_model.proofs.ListingLaws.{listed_top, listed_bottom}
use Rattle.plain_router.specs.Plain.{net_segments, net_vias}
use Rattle.plain_router.proofs.PinLaws.{for_nets-more, reach_of-read}
use Rattle.plain_router.proofs.router.wire_nets.Goals as goal

pub reaches-requires-clause-listed : goal.reaches-requires-clause-listed
reaches-requires-clause-listed c = listed_bottom c.args.channel.now c.args.nets.now c.items.result.now (cc) c.requires.nets

pub reaches-requires-clause-positive : goal.reaches-requires-clause-positive
reaches-requires-clause-positive c = λ net member. (c.requires.nets.standing net member).0

pub reaches-requires-2-clause-listed : goal.reaches-requires-2-clause-listed
reaches-requires-2-clause-listed c = listed_top c.args.channel.now c.args.nets.now c.items-2.result.now (cc) c.requires.nets

pub reaches-requires-2-clause-positive : goal.reaches-requires-2-clause-positive
reaches-requires-2-clause-positive c = λ net member. (c.requires.nets.standing net member).0

pub loop-place-preserved : goal.loop-place-preserved
loop-place-preserved c =
    let pins = c.args.channel.now in
    let nets = c.args.nets.now in
    let place = c.loop-place.place in
    let columns : c.items-columns.result.now ≡ c.args.channel.now.top = c.items-columns.ensures ∙ ap (λ (p : Pins). p.top) c.channel.view_is in
    let bottom : c.items.result.now ≡ c.args.channel.now.bottom = c.items.ensures ∙ ap (λ (p : Pins). p.bottom) c.channel.view_is in
    let top : c.items-2.result.now ≡ c.args.channel.now.top = c.items-2.ensures ∙ ap (λ (p : Pins). p.top) c.channel.view_is in
    let below = reach_of-read pins.bottom c.items.result.now nets place c.in_ok-below.below.items c.index.result.now bottom c.loop-place-test.true
    c.in_ok-below.ensures c.index.ensures in
    let above = reach_of-read pins.top c.items-2.result.now nets place c.in_ok-above.above.items c.index-in-loop-place.result.now top
    c.loop-place-test.true c.in_ok-above.ensures c.index-in-loop-place.ensures in
    record {
      segments = rw (c.in_ok-wire_net.ensures.segments, c.loop-place.invariant.segments, below, above, columns)
          (for_nets-more (net_segments pins nets) nets place c.args.segments.now.items);
      vias = rw (c.in_ok-wire_net.ensures.vias, c.loop-place.invariant.vias, below, above, columns)
          (for_nets-more (net_vias pins nets) nets place c.args.vias.now.items);
    }
