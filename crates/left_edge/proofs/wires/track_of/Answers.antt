use Rattle.std.proofs.Common.{arith}
use Rattle.left_edge.proofs.ColumnLaws.{ascending_nets}
use Rattle.left_edge.proofs.WireLaws.{level_few}
use Rattle.left_edge.proofs.wires.track_of.Goals as goal

pub place_of-requires-clause-ascending : goal.place_of-requires-clause-ascending
place_of-requires-clause-ascending c = ascending_nets c.args.leveled.now.channel.now c.args.leveled.now.nets.now c.args.leveled.now.listed

pub overflow_add-result : goal.overflow_add-result
overflow_add-result c =
    let few = level_few c.args.leveled.now.channel.now c.args.leveled.now.valid c.args.leveled.now.free c.args.leveled.now.nets.now c.args.leveled.now.levels.now c.place_of.result c.args.leveled.now.listed
    c.args.leveled.now.leveled c.place_of.ensures.within 0 in
    omega arith
