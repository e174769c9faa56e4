use Rattle.std.proofs.Common.{rules}
use Rattle.clap.specs.Words.{app_of}
use Rattle.command_words.proofs.Arguments.{refused-words, taken-words}
use Rattle.command_words.proofs.parser.matches_in.Goals as goal

pub returns-in-Ok : goal.returns-in-Ok
returns-in-Ok c =
    let parse = c.in-Ok.ensures in
    taken-words (app_of c.args.parser) c.args.words.now _ c.requires.simple c.requires.free parse.kinds parse.matches

pub returns : goal.returns
returns c = refused-words (app_of c.args.parser) c.args.words.now c.in-Err.error c.requires.free c.in-Err.ensures.kinds (search rules)
