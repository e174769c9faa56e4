use Rattle.std.proofs.Common.{length, true}
use Rattle.shelf_io.proofs.SoFar.{SoFar}
use Rattle.yal_writer.specs.ParentText.{lines_text}
use Rattle.yal_writer.proofs.printing.append_lines.Given as goal

-- the lines before those that are left were written, and nothing has failed
abbrev pub invariant-loop-line : goal.invariant-loop-line
invariant-loop-line g l = SoFar (lines_text l.fn.lines) (lines_text l.rest) l.fn.buffer l.buffer
    (g.K.Sink.written l.fn.out) (g.K.Sink.written l.out) (g.K.Sink.faults l.fn.out) (g.K.Sink.faults l.out) (g.K.Sink.same_place l.fn.out l.out)
    (g.K.Sink.else_same l.fn.out l.out true)

abbrev pub decreases-loop-line : goal.decreases-loop-line
decreases-loop-line g l = length l.rest
