use Rattle.channel_model.proofs.nets.place_of.Goals as goal
use Rattle.std.proofs.lemmas.List.Sorted.{searched}
use Rattle.channel_model.proofs.PlaceLaws.{place_of-is}
use Rattle.std_laws.proofs.Increasing.{increasing-at, increasing-missing}

pub unreachable-requires : goal.unreachable-requires
unreachable-requires c =
    let found = rw c.in-Err.is at (searched c.args.nets.now c.args.net _ c.binary_search.ensures.position (increasing-at c.args.nets.now c.requires.ascending)) in
    increasing-missing c.args.nets.now c.args.net c.in-Err.field-0 found.1 found.2 c.requires.listed

pub returns-clause-place : goal.returns-clause-place
returns-clause-place c =
    let found = rw c.in-Ok.is at (searched c.args.nets.now c.args.net _ c.binary_search.ensures.position (increasing-at c.args.nets.now c.requires.ascending)) in
    place_of-is c.args.nets.now c.in-Ok.place c.args.net c.requires.ascending found.0 found.1
