use Rattle.std.proofs.Common.{None, Ok, Option, refl, sym, arith}
use Rattle.std.proofs.lemmas.Option.{same_Some}
use Rattle.command_ends.proofs.FindsLaws.{of-file}
use Rattle.command_inputs.specs.GivenRules.{rules_given, some_rules}
use Rattle.command_inputs.proofs.ReadingLaws.{read-still}
use Rattle.tech_rules.specs.Rules.{RuleValues}
use Rattle.command_inputs.proofs.given_rules.load_given_rules.Goals as goal

pub returns-in-Some : goal.returns-in-Some
unfolding rules_given
returns-in-Some g c = rw c.in-Some.is (record {
  told = λ said is. of-file (λ (o : Option RuleValues). o) c.load_some_rules.result some_rules _ c.load_some_rules.ensures.told said is;
  read = c.load_some_rules.ensures.read;
})

pub returns-in-None : goal.returns-in-None
unfolding rules_given
returns-in-None g c = rw c.in-None.is (record {
  told = λ said is. sym (same_Some (Ok None) said is);
  read = read-still 0 (λ same. absurd (omega (arith, same))) (λ same. absurd (omega (arith, same))) (λ same. absurd (omega (arith, same))) refl refl refl;
})
