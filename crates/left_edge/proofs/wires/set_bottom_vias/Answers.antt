use Rattle.std.proofs.Common.{rules}
use Rattle.left_edge.specs.EdgeWiring.{bottom_via}
use Rattle.left_edge.proofs.ByColumnLaws.{by_column-push}
use Rattle.left_edge.proofs.WireLaws.{listed_bottom, bottom_via-one}
use Rattle.left_edge.proofs.wires.set_bottom_vias.Goals as goal

pub track_of-track-requires : goal.track_of-track-requires
track_of-track-requires c =
    listed_bottom c.args.leveled.now.channel.now c.args.leveled.now.nets.now c.loop-column.column _ c.args.leveled.now.listed (search rules) c.if-net-eq0.false

pub loop-column-preserved : goal.loop-column-preserved
loop-column-preserved c =
    rw (c.in_ok-push.ensures.items, c.track_of-track.ensures)
    (by_column-push (bottom_via c.args.leveled.now.channel.now) c.loop-column.column c.loop-column.vias.items c.args.vias.now.items _ c.loop-column.invariant
    (bottom_via-one c.args.leveled.now.channel.now c.loop-column.column _ (search rules) c.if-net-eq0.false))
