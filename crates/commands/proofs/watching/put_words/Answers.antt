use Rattle.std.proofs.Common.{map}
use Rattle.shelf_io.specs.Lines.{word_text}
use Rattle.commands.proofs.NotedLaws.{so-words}
use Rattle.commands.proofs.watching.put_words.Goals as goal

pub returns-in-Ok : goal.returns-in-Ok
returns-in-Ok g c = so-words _ (map word_text c.args.words.now) c.in-Ok.ensures

pub returns-in-Err : goal.returns-in-Err
returns-in-Err g c = so-words _ (map word_text c.args.words.now) c.in-Err.ensures
