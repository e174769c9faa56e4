use Rattle.shelf_io.proofs.WroteLaws.{puts-later}
use Rattle.command_ends.proofs.Puts.{gained}
use Rattle.command_ends.proofs.line.print_line.Goals as goal

pub returns : goal.returns
returns g c = record { line = gained c.put_stop.result c.put_stop.ensures; later = puts-later c.put_stop.result c.put_stop.ensures }
