use Rattle.close_rects.specs.Kins.{AreOfClass}
use Rattle.close_rects.proofs.crowd.Crowd.block_class.Given as goal

abbrev pub invariant-loop-at : goal.invariant-loop-at
invariant-loop-at l = AreOfClass l.self.members l.self.items l.start l.at l.class
