use Rattle.greedy_column.proofs.PlacedLaws.{carried-from_gives}
use Rattle.greedy_column.proofs.tracks.Tracks.carry.Goals as goal

pub returns : goal.returns
returns c =
    carried-from_gives c.args.self.now c.give-net.new.self c.give-free.new.self c.give-net.result c.args.from c.args.to c.give-net.ensures.given
    c.give-net.ensures.held c.give-free.ensures.given
