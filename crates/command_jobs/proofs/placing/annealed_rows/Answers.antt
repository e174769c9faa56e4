use Rattle.command_jobs.proofs.RowCounts.{annealed-few}
use Rattle.command_jobs.proofs.placing.annealed_rows.Goals as goal

pub returns-in-Ok-clause-few : goal.returns-in-Ok-clause-few
returns-in-Ok-clause-few g c = annealed-few _ _ _ _ _ _ _ c.in_ok-first.ensures.is c.in-Ok.ensures.annealed c.requires.few
