use Rattle.std.proofs.Common.{rules, ◌≡◌, refl, true}
use Rattle.commands.proofs.NotedLaws.{told-line}
use Rattle.commands.proofs.watching.ProgressWatch.told.Goals as goal

pub returns-then-passes : goal.returns-then-passes
returns-then-passes g c =
    let wish : c.args.self.now.wished ≡ true = search rules in
    let on : c.args.self.now.going ≡ true = search rules in
    told-line g.N.Sink.written g.N.Sink.faults _ _ _ _ _ refl wish on c.put_step-self.ensures
