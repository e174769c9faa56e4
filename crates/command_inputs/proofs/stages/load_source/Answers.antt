use Rattle.std.proofs.Common.{refl}
use Rattle.command_inputs.proofs.ReadingLaws.{loads-made}
use Rattle.command_inputs.specs.Stated.{design_verdict}
use Rattle.command_inputs.specs.declared.outcome.ReadDesign.{ReadDesign}
use Rattle.command_inputs.proofs.stages.load_source.Goals as goal

pub returns-in-Made-clause-loads : goal.returns-in-Made-clause-loads
returns-in-Made-clause-loads g c =
    rw (c.in-Made.is, c.or_stop.ensures) (loads-made (λ (r : ReadDesign). r) (design_verdict c.args.rules.now c.args.ports) _ c.make_source.result refl c.make_source.ensures.says)
