use Rattle.std.proofs.Common.{rules, arith, length}
use Rattle.left_edge.proofs.TrackLaws.{lasts-few}
use Rattle.left_edge.specs.EdgeWiring.{top_across}
use Rattle.left_edge.proofs.ByColumnLaws.{by_column-push}
use Rattle.left_edge.proofs.WireLaws.{listed_top, top_across-one}
use Rattle.left_edge.proofs.wires.wire_top_pins.Goals as goal

pub track_of-low-requires : goal.track_of-low-requires
track_of-low-requires c =
    listed_top c.args.leveled.now.channel.now c.args.leveled.now.nets.now c.loop-column.column _ c.args.leveled.now.listed (search rules) c.if-net-eq0.false

pub loop-column-preserved : goal.loop-column-preserved
loop-column-preserved c =
    rw (c.in_ok-push.ensures.items, c.track_of-low.ensures, c.args.leveled.now.counted)
    (by_column-push (top_across c.args.leveled.now.channel.now) c.loop-column.column c.loop-column.segments.items c.args.segments.now.items _ c.loop-column.invariant
    (top_across-one c.args.leveled.now.channel.now c.loop-column.column _ (search rules) c.if-net-eq0.false))

pub overflow_add-leveled : goal.overflow_add-leveled
overflow_add-leveled c =
    omega (arith, lasts-few c.args.leveled.now.channel.now (length c.args.leveled.now.channel.now.top), c.args.leveled.now.valid.within, c.args.leveled.now.counted)
