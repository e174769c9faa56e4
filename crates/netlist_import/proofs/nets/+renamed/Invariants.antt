use Rattle.std.proofs.Common.{length}
use Rattle.netlist_import.proofs.nets.+renamed.Given as goal

abbrev pub decreases-renamed : goal.decreases-renamed
decreases-renamed l = length l.renamings.now
