use Rattle.greedy_router.proofs.PackedLaws.{ends-at, lists-at}
use Rattle.greedy_router.proofs.packed.list_at.Goals as goal

pub part-requires-clause-order : goal.part-requires-clause-order
part-requires-clause-order g c =
    let within = ends-at 0 c.args.ends.now _ c.args.number c.requires.ends c.requires.there in
    rw c.begin_of.ensures within.0

pub part-requires-clause-within : goal.part-requires-clause-within
part-requires-clause-within g c = (ends-at 0 c.args.ends.now _ c.args.number c.requires.ends c.requires.there).1

pub returns : goal.returns
returns g c = rw (c.part.ensures, c.begin_of.ensures) (lists-at 0 c.args.ends.now c.args.items.now c.args.number c.requires.there)
