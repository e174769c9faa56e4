use Rattle.command_ends.proofs.ClashLine.{clash-line}
use Rattle.command_ends.proofs.line.put_clash.Goals as goal

pub returns : goal.returns
returns g c = rw (clash-line c.args.name.now c.items.result.now c.items.ensures) c.put_line.ensures
