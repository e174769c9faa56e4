use Rattle.std.proofs.Common.{ℕ, Vec, Global}
use Rattle.command_inputs.specs.Stated.{design_verdict, stated_design}
use Rattle.command_inputs.specs.declared.outcome.ReadDesign.{ReadDesign}
use Rattle.command_inputs.proofs.ReadingLaws.{loads-on, loads-stop}
use Rattle.command_inputs.proofs.stages.load_design.Goals as goal

pub returns-in_err-bytes-clause-loads : goal.returns-in_err-bytes-clause-loads
unfolding design_verdict
returns-in_err-bytes-clause-loads g c =
    loads-stop (λ (v : Vec ℕ Global). v.items) (λ (r : ReadDesign). r) (stated_design c.args.rules.now c.args.ports) c.in_err-bytes.field-0.0 c.from_residual.result
    c.from_residual.ensures.1 c.in_err-bytes.ensures.loads

pub returns-clause-loads : goal.returns-clause-loads
unfolding design_verdict
returns-clause-loads g c =
    rw c.or_stop-read.ensures (loads-on (λ (v : Vec ℕ Global). v.items) (λ (r : ReadDesign). r) (stated_design c.args.rules.now c.args.ports) c.in_ok-bytes.bytes _ c.stated_design.result c.as_slice.ensures.value
    c.in_ok-bytes.ensures.loads c.stated_design.ensures.says)
