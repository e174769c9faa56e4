use Rattle.std.proofs.Common.{sym, ◌∙◌, rules}
use Rattle.left_edge.proofs.WireLaws.{listed_top, pin_of_via}
use Rattle.left_edge.proofs.wires.set_top_vias.Goals as goal

pub track_of-track-requires : goal.track_of-track-requires
track_of-track-requires c =
    listed_top c.args.leveled.now.channel.now c.args.leveled.now.nets.now c.loop-column.column _ c.args.leveled.now.listed (search rules)
    (pin_of_via _ _ (sym c.has_top_via.ensures ∙ c.if-not-has_top_via.false))
