use Rattle.std.proofs.Common.{length}
use Rattle.shelf_io.proofs.line.+append_line.Given as goal

abbrev pub decreases-append_line : goal.decreases-append_line
decreases-append_line g l = length l.words.now
