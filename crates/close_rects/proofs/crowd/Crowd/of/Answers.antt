use Rattle.close_rects.proofs.Placing.{numbered-placed}
use Rattle.close_rects.proofs.crowd.Crowd.of.Goals as goal

pub invariant_of-crowd : goal.invariant_of-crowd
invariant_of-crowd c =
    let placed = rw (← c.in_ok-of.ensures) at c.in_ok-items.ensures in
    record {
      placed = placed;
      numbered = numbered-placed _ _ placed.moved;
      known = rw c.in_ok-with_capacity.ensures.items (λ b kin is. let never : ⊥ = cc in absurd never);
    }
