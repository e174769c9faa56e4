use Rattle.yal_reader.proofs.KeptFile.{reads-kept}
use Rattle.yal_reader.proofs.modules.read_yal.Goals as goal

pub returns-in-Ok-clause-kept : goal.returns-in-Ok-clause-kept
returns-in-Ok-clause-kept c = (reads-kept c.args.bytes.now c.args.numbers c.in-Ok.file c.in-Ok.ensures).0

pub returns-in-Ok-clause-spots : goal.returns-in-Ok-clause-spots
returns-in-Ok-clause-spots c = (reads-kept c.args.bytes.now c.args.numbers c.in-Ok.file c.in-Ok.ensures).1

pub returns-in-Ok-clause-short : goal.returns-in-Ok-clause-short
returns-in-Ok-clause-short c = (reads-kept c.args.bytes.now c.args.numbers c.in-Ok.file c.in-Ok.ensures).2
