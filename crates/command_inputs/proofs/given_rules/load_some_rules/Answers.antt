use Rattle.std.proofs.Common.{Option, Some, Ok, Err, refl}
use Rattle.tech_rules.specs.Rules.{RuleValues}
use Rattle.command_inputs.specs.GivenRules.{some_rules}
use Rattle.command_inputs.proofs.ReadingLaws.{loads-on, loads-stop}
use Rattle.command_inputs.proofs.given_rules.load_some_rules.Goals as goal

pub returns-in-Ok : goal.returns-in-Ok
unfolding some_rules
returns-in-Ok g c =
    loads-on (λ (r : RuleValues). r) (λ (o : Option RuleValues). o) (λ (r : RuleValues). Ok (Some r)) c.in-Ok.rules c.in-Ok.rules (Ok (Some c.in-Ok.rules)) refl c.in-Ok.ensures
    (record { made = refl; command = tt })

pub returns-in-Err : goal.returns-in-Err
unfolding some_rules
returns-in-Err g c =
    loads-stop (λ (r : RuleValues). r) (λ (o : Option RuleValues). o) (λ (r : RuleValues). Ok (Some r)) c.in-Err.stop (Err c.in-Err.stop) refl c.in-Err.ensures
