use Rattle.std.proofs.Common.{◌∙◌}
use Rattle.list_facts.proofs.TextLaws.{any-texts}
use Rattle.list_facts.proofs.names.is_among.Goals as goal

pub returns : goal.returns
returns c = c.contains.ensures ∙ any-texts c.args.name c.args.names.now.keys
