use Rattle.std.proofs.Common.{arith}
use Rattle.greedy_router.proofs.PackedLaws.{lists-length}
use Rattle.greedy_router.proofs.packed.PackedLists.at.Goals as goal

pub list_at-requires-clause-there : goal.list_at-requires-clause-there
list_at-requires-clause-there g c =
    let long = lists-length 0 c.self.inside.ends.items c.self.inside.items.items in
    let less = rw (← c.self.view_is) at c.requires in
    let same = c.as_slice-2.ensures in omega (arith, long, less, same)
