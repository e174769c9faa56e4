use Rattle.std.proofs.Common.{rules, ◌∙◌}
use Rattle.cif_text.proofs.MoveLaws.{call-moves}
use Rattle.cif_text.proofs.calls.call_form.Goals as goal

pub returns-in_err-n-clause-is : goal.returns-in_err-n-clause-is
returns-in_err-n-clause-is c = call-moves c.args.body.now ∙ search rules

pub returns-in_err-whole-clause-is : goal.returns-in_err-whole-clause-is
returns-in_err-whole-clause-is c = call-moves c.args.body.now ∙ search rules

pub returns-clause-is : goal.returns-clause-is
returns-clause-is c = call-moves c.args.body.now ∙ search rules
