use Rattle.std.proofs.lemmas.Result.{IfOk-weaker}
use Rattle.greedy_column.specs.Uses.{next_after}
use Rattle.greedy_column.proofs.MoveLaws.{goes_on}
use Rattle.greedy_column.proofs.moment.Moment.line_after.Goals as goal

pub returns : goal.returns
returns g c =
    IfOk-weaker c.target_of.result _ _ (λ target goes.
    goes_on (g.C.Chooses.answers c.args.self.now.chooser.now) (next_after c.args.self.now.ahead.now.uses.items c.args.self.now.column) c.args.tracks.now
    c.args.kept.now c.args.spans.now c.args.free.now c.args.line c.net_on-net.result c.move_options-options.result.now target c.net_on-net.ensures
    c.move_options-options.ensures.options goes) c.target_of.ensures
