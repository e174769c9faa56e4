use Rattle.close_rects.proofs.crowd.Crowd.join.Goals as goal
use Rattle.std.proofs.Common.{◌≡◌, Some, arith}
use Rattle.close_rects.proofs.KinLaws.{AreKins-set, AreOfClass-over, IsKin-at}
use Rattle.std_laws.proofs.Options.{some-is}

pub loop-next-init : goal.loop-next-init
loop-next-init c =
    let told = IsKin-at _ _ _ _ _ c.self.invariant.known (omega arith) c.index-kin.ensures in
    record {
      on = omega arith;
      within = omega arith;
      all = λ class named k item on below is. told.own class named k item on (omega arith) is;
    }

pub loop-next-preserved : goal.loop-next-preserved
loop-next-preserved c =
    let told = IsKin-at _ _ _ _ _ c.self.invariant.known (omega arith) c.index-further.ensures in
    record {
      on = omega (arith, told.on);
      within = told.within;
      all = λ class named. AreOfClass-over _ _ _ _ _ class
          (c.loop-next.invariant.all class (some-is (λ n. c.loop-next.all ≡ Some n) _ class c.common-all.ensures.first named))
          (told.all class (some-is (λ n. c.index-further.result.now.all ≡ Some n) _ class c.common-all.ensures.second named));
    }

pub invariant_of-self : goal.invariant_of-self
invariant_of-self c =
    let told = IsKin-at _ _ _ _ _ c.self.invariant.known (omega arith) c.index-kin.ensures in
    record {
      placed = c.self.invariant.placed;
      numbered = c.self.invariant.numbered;
      known = AreKins-set _ _ _ _ _ c.self.invariant.known (record {
        on = c.loop-next.invariant.on;
        within = c.loop-next.invariant.within;
        own = told.own;
        all = c.loop-next.invariant.all;
      });
    }
