use Rattle.command_words.specs.Seen.{seen}
use Rattle.command_words.proofs.StyleLaws.{named-within}
use Rattle.command_words.proofs.command.route_given.Goals as goal

pub returns-in-Ok-clause-style : goal.returns-in-Ok-clause-style
returns-in-Ok-clause-style g c = named-within (λ s. s.chooser.name) c.args.styles.now c.args.words.now (seen c.in-Ok.names) c.requires c.in-Ok.ensures
