use Rattle.commands.proofs.NotedLaws.{so-put}
use Rattle.commands.proofs.forewarning.put_names.Goals as goal

pub returns-in-Ok : goal.returns-in-Ok
returns-in-Ok g c = so-put _ _ c.in-Ok.ensures

pub returns : goal.returns
returns g c = so-put _ _ c.in-Err.ensures
