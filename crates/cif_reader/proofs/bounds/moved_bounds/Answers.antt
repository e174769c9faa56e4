use Rattle.cif_reader.proofs.BoundLemmas.{reach-moves}
use Rattle.cif_reader.proofs.bounds.moved_bounds.Goals as goal

pub moved-requires-clause-rect : goal.moved-requires-clause-rect
moved-requires-clause-rect c = reach-moves c.in-Some.rect (c.requires c.in-Some.rect c.in-Some.is)
