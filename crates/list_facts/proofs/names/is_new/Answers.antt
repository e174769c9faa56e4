use Rattle.std.proofs.Common.{◌∙◌, ap, not}
use Rattle.list_facts.proofs.TextLaws.{any-texts}
use Rattle.list_facts.proofs.names.is_new.Goals as goal

pub returns-in-Ok-clause-new : goal.returns-in-Ok-clause-new
returns-in-Ok-clause-new c = c.in-Ok.ensures.added ∙ ap not (any-texts c.args.name c.args.names.now.keys)
