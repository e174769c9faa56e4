use Rattle.close_rects.proofs.crowd.Crowd.add_kins.Goals as goal
use Rattle.std.proofs.Common.{◌≡◌, ◌+◌, ◌*◌, arith, length}
use Rattle.close_rects.specs.Kins.{AreOfClass}
use Rattle.close_rects.proofs.KinLaws.{AreKins-push}
use Rattle.std_laws.proofs.Options.{some-is}

pub invariant_of-self : goal.invariant_of-self
invariant_of-self c = record {
  placed = c.self.invariant.placed;
  numbered = c.self.invariant.numbered;
  known = rw c.in_err-push.ensures.items c.self.invariant.known;
}

pub invariant_of-self-in-loop-b : goal.invariant_of-self-in-loop-b
invariant_of-self-in-loop-b c =
    let b : c.len.result ≡ length c.self.inside.kins.items = omega arith in
    let own = rw (b, ← c.self.view_is) at c.block_class-own.ensures in
    record {
      placed = c.self.invariant.placed;
      numbered = c.self.invariant.numbered;
      known = AreKins-push _ _ _ _ _ c.in_ok-push.ensures.items c.self.invariant.known (record {
        on = omega arith;
        within = omega arith;
        own = λ class. some-is (AreOfClass c.self.inside.members c.self.inside.indexed (8 * length c.self.inside.kins.items) (8 * length c.self.inside.kins.items + 8)) _ class own;
        all = λ class named. let never : ⊥ = cc in absurd never;
      });
    }
