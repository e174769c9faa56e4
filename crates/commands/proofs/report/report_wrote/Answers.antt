use Rattle.std.proofs.Common.{inl, refl, ◌∙◌}
use Rattle.commands.proofs.NotedLaws.{same-appended}
use Rattle.commands.proofs.report.report_wrote.Goals as goal

pub returns : goal.returns
returns g c = inl (record { number = refl; whole = λ held at. same-appended _ ∙ at; calm = refl })
