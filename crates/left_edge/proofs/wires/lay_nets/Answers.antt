use Rattle.std.proofs.Common.{arith}
use Rattle.left_edge.proofs.WireLaws.{level_few}
use Rattle.left_edge.proofs.wires.lay_nets.Goals as goal

pub overflow_add-leveled : goal.overflow_add-leveled
overflow_add-leveled c =
    let few = level_few c.args.leveled.now.channel.now c.args.leveled.now.valid c.args.leveled.now.free c.args.leveled.now.nets.now c.args.leveled.now.levels.now c.loop-place.place c.args.leveled.now.listed
    c.args.leveled.now.leveled c.loop-place-test.true 0 in
    omega arith
