use Rattle.std.proofs.Common.{ℕ, Vec, Global}
use Rattle.tech_rules.specs.Rules.{RuleValues}
use Rattle.command_inputs.specs.Stated.{rules_verdict, stated_rules}
use Rattle.command_inputs.proofs.ReadingLaws.{loads-on, loads-stop}
use Rattle.command_inputs.proofs.stages.load_rules.Goals as goal

pub returns-in_err-bytes : goal.returns-in_err-bytes
unfolding rules_verdict
returns-in_err-bytes g c =
    loads-stop (λ (v : Vec ℕ Global). v.items) (λ (r : RuleValues). r) stated_rules c.in_err-bytes.field-0.0 c.from_residual.result
    c.from_residual.ensures.1 c.in_err-bytes.ensures.loads

pub returns : goal.returns
unfolding rules_verdict
returns g c =
    rw c.or_stop-rules.ensures (loads-on (λ (v : Vec ℕ Global). v.items) (λ (r : RuleValues). r) stated_rules c.in_ok-bytes.bytes _ c.stated_rules.result c.as_slice.ensures.value
    c.in_ok-bytes.ensures.loads c.stated_rules.ensures)
