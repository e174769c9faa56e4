use Rattle.std.proofs.Common.{rules}
use Rattle.greedy_column.specs.Offers.{offer}
use Rattle.greedy_column.proofs.PickLaws.{picked}
use Rattle.greedy_column.proofs.moment.Moment.pick_line.Goals as goal

pub returns-clause-picked : goal.returns-clause-picked
returns-clause-picked g c =
    picked (g.C.Chooses.answers c.args.self.now.chooser.now) (offer c.args.question c.args.others.now) c.args.lines.now c.deref.result.now c.choose.result _ (search rules)
    c.choose.ensures.answer c.choose.ensures.within
