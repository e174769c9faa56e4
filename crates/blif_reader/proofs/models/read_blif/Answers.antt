use Rattle.blif_reader.proofs.KeptLaws.{reads-kept}
use Rattle.blif_reader.proofs.models.read_blif.Goals as goal

pub returns-in-Ok-clause-kept : goal.returns-in-Ok-clause-kept
returns-in-Ok-clause-kept c = reads-kept c.args.bytes.now c.in-Ok.file c.in-Ok.ensures
