use Rattle.command_words.specs.Seen.{seen}
use Rattle.command_words.proofs.StyleLaws.{made-within}
use Rattle.command_words.proofs.command.make_given.Goals as goal

pub returns-in-Ok-clause-style : goal.returns-in-Ok-clause-style
returns-in-Ok-clause-style c = λ count some. made-within c.args.words.now (seen c.in-Ok.names) count some c.in-Ok.ensures
