use Rattle.commands.proofs.CarriedLaws.{helped-for}
use Rattle.commands.proofs.doing.obey.Goals as goal

pub returns-in-Route-clause-kept : goal.returns-in-Route-clause-kept
returns-in-Route-clause-kept g c = rw c.in-Route.is c.route.ensures.kept

pub returns-in-Help-clause-carried : goal.returns-in-Help-clause-carried
returns-in-Help-clause-carried g c = rw c.in-Help.is (helped-for c.in-Help.topic _ _ c.requires.none)

pub returns-in-Help-clause-kept : goal.returns-in-Help-clause-kept
returns-in-Help-clause-kept g c = λ said says begun. absurd begun
