use Rattle.std.proofs.Common.{arith}
use Rattle.close_rects.proofs.Indexes.{Covers-over, IsIndexed-set, IsNode-at}
use Rattle.close_rects.proofs.indexed.Indexed.join.Goals as goal

pub loop-next-init : goal.loop-next-init
loop-next-init c =
    let told = IsNode-at _ _ _ _ c.self.invariant (omega arith) c.index.ensures in
    record {
      on = omega arith;
      within = omega arith;
      all = λ k item on below is left. told.own k item on (omega arith) is left;
    }

pub loop-next-smaller : goal.loop-next-smaller
loop-next-smaller c = let told = IsNode-at _ _ _ _ c.self.invariant (omega arith) c.index-in-loop-next.ensures in omega (arith, told.on)

pub loop-next-preserved : goal.loop-next-preserved
loop-next-preserved c =
    let told = IsNode-at _ _ _ _ c.self.invariant (omega arith) c.index-in-loop-next.ensures in
    record {
      on = omega (arith, told.on);
      within = told.within;
      all = Covers-over _ _ _ _ _ _ _ c.loop-next.invariant.all told.all c.over-all.ensures.first c.over-all.ensures.second;
    }

pub invariant_of-self : goal.invariant_of-self
invariant_of-self c =
    let told = IsNode-at _ _ _ _ c.self.invariant (omega arith) c.index.ensures in
    IsIndexed-set _ _ _ _ c.self.invariant (record {
      on = c.loop-next.invariant.on;
      within = c.loop-next.invariant.within;
      own = told.own;
      all = c.loop-next.invariant.all;
    })
