use Rattle.std.proofs.Common.{subst, rules}
use Rattle.channel_model.specs.Pins.{IsChannel}
use Rattle.channel_model.proofs.ListingLaws.{listed_top, listed_bottom}
use Rattle.plain_router.proofs.WiredLaws.{wired_from_stated}
use Rattle.plain_router.proofs.router.plain.Goals as goal

pub wire_bottom_pins-requires-clause-listed : goal.wire_bottom_pins-requires-clause-listed
wire_bottom_pins-requires-clause-listed c =
    rw c.deref.ensures.value (listed_bottom c.args.channel.now c.in_ok-nets.nets.items c.items-bottom.result.now (cc) c.in_ok-nets.ensures.nets)

pub wire_top_pins-requires-clause-listed : goal.wire_top_pins-requires-clause-listed
wire_top_pins-requires-clause-listed c =
    rw c.deref-2.ensures.value (listed_top c.args.channel.now c.in_ok-nets.nets.items c.items-top.result.now (cc) c.in_ok-nets.ensures.nets)

pub returns-clause-wired : goal.returns-clause-wired
returns-clause-wired c = wired_from_stated c.args.channel.now _ (subst IsChannel c.channel.view_is c.channel.invariant) (search rules)
