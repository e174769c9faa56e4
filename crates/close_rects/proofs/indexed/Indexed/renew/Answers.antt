use Rattle.std.proofs.Common.{arith}
use Rattle.close_rects.proofs.Indexes.{IsIndexed-set, IsNode-at}
use Rattle.close_rects.proofs.indexed.Indexed.renew.Goals as goal

pub invariant_of-self : goal.invariant_of-self
invariant_of-self c =
    let told = IsNode-at _ _ _ _ c.self.invariant (omega arith) c.index-node.ensures in
    IsIndexed-set _ _ _ _ c.self.invariant (record { on = told.on; within = told.within; own = c.own_bounds.ensures; all = told.all })
