use Rattle.std.proofs.Common.{arith}
use Rattle.close_rects.proofs.Indexes.{IsNode-at, NoneMet-covered, not_met}
use Rattle.close_rects.proofs.indexed.Indexed.passed.Goals as goal

pub returns-then-not-meets-clause-none : goal.returns-then-not-meets-clause-none
returns-then-not-meets-clause-none c =
    let told = IsNode-at _ _ _ _ c.self.invariant (omega arith) c.index.ensures in
    rw (← c.self.view_is)
    (NoneMet-covered _ _ _ _ _ _ _ (omega arith) (omega arith) told.all (not_met _ _ _ c.meets.ensures c.if-not-meets.true))

pub returns-then-not-meets-2-clause-none : goal.returns-then-not-meets-2-clause-none
returns-then-not-meets-2-clause-none c =
    let told = IsNode-at _ _ _ _ c.self.invariant (omega arith) c.index.ensures in
    rw (← c.self.view_is)
    (NoneMet-covered _ _ _ _ _ _ _ (omega arith) (omega arith) told.own (not_met _ _ _ c.meets-else-not-meets.ensures c.if-not-meets-2.true))
