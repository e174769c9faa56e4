use Rattle.std.proofs.Common.{refl}
use Rattle.cif_reader.proofs.BehindLemmas.{first-seen, first-is}
use Rattle.cif_reader.proofs.standing.at_first.Goals as goal

pub returns-clause-seen : goal.returns-clause-seen
returns-clause-seen c = first-seen _ c.new-2.ensures.items c.new.ensures.items c.whole.ensures.a c.whole.ensures.b refl refl refl c.new-3.ensures refl

pub returns-clause-is : goal.returns-clause-is
returns-clause-is c = first-is _ c.new.ensures.items refl
