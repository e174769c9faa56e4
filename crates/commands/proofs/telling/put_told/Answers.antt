use Rattle.commands.proofs.NotedLaws.{noted-put}
use Rattle.commands.proofs.telling.put_told.Goals as goal

pub returns : goal.returns
returns g c = noted-put c.put_notes.result _ c.put_notes.ensures
