use Rattle.std.proofs.Common.{◌∙◌, ap}
use Rattle.list_facts.specs.Texts.{texts}
use Rattle.list_facts.proofs.TextLaws.{place-texts, texts-insert}
use Rattle.list_facts.proofs.names.number.Goals as goal

pub returns-in-Ok-clause-grown : goal.returns-in-Ok-clause-grown
returns-in-Ok-clause-grown c = ap texts c.in-Ok.ensures.keys ∙ texts-insert c.args.names.now.keys c.args.name

pub returns-in-Ok-clause-place : goal.returns-in-Ok-clause-place
returns-in-Ok-clause-place c = c.in-Ok.ensures.index ∙ place-texts c.args.name c.args.names.now.keys
