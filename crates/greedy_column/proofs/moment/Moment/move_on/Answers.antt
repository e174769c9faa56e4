use Rattle.std.proofs.Common.{◌∙◌, ap}
use Rattle.greedy_column.specs.Tracks.{ids}
use Rattle.greedy_column.proofs.IdLaws.{ids-freed}
use Rattle.greedy_column.proofs.SplitLaws.{TellSplit-freed}
use Rattle.greedy_column.proofs.moment.Moment.move_on.Goals as goal

pub moves_of-requires-clause-split : goal.moves_of-requires-clause-split
moves_of-requires-clause-split g c =
    TellSplit-freed c.args.paired.now.tracks.now c.in_ok-tracks.tracks c.args.ends.now.ids.items c.args.paired.now.pairs c.args.paired.now.neighbours c.in_ok-tracks.ensures

pub moves_of-requires-clause-ids : goal.moves_of-requires-clause-ids
moves_of-requires-clause-ids g c = ap ids c.in_ok-tracks.ensures ∙ ids-freed c.args.ends.now.ids.items c.args.paired.now.tracks.now
