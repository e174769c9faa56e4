use Rattle.std.proofs.Common.{rules}
use Rattle.left_edge.specs.EdgeWiring.{bottom_across}
use Rattle.left_edge.proofs.ByColumnLaws.{by_column-push}
use Rattle.left_edge.proofs.WireLaws.{listed_bottom, bottom_across-one}
use Rattle.left_edge.proofs.wires.wire_bottom_pins.Goals as goal

pub track_of-high-requires : goal.track_of-high-requires
track_of-high-requires c =
    listed_bottom c.args.leveled.now.channel.now c.args.leveled.now.nets.now c.loop-column.column _ c.args.leveled.now.listed (search rules) c.if-net-eq0.false

pub loop-column-preserved : goal.loop-column-preserved
loop-column-preserved c =
    rw (c.in_ok-push.ensures.items, c.track_of-high.ensures)
    (by_column-push (bottom_across c.args.leveled.now.channel.now) c.loop-column.column c.loop-column.segments.items c.args.segments.now.items _ c.loop-column.invariant
    (bottom_across-one c.args.leveled.now.channel.now c.loop-column.column _ (search rules) c.if-net-eq0.false))
