use Rattle.std.proofs.Common.{length, map, true}
use Rattle.std.specs.String.{string_bytes}
use Rattle.shelf_io.proofs.SoFar.{SoFar}
use Rattle.note_text.specs.Lines.{lines_text}
use Rattle.note_text.proofs.notes.append_lines.Given as goal

-- the lines before those that are left were written, and nothing has failed
abbrev pub invariant-loop-text : goal.invariant-loop-text
invariant-loop-text g l = SoFar (lines_text (map string_bytes l.fn.lines)) (lines_text (map string_bytes l.rest)) l.fn.buffer l.buffer
    (g.K.Sink.written l.fn.out) (g.K.Sink.written l.out) (g.K.Sink.faults l.fn.out) (g.K.Sink.faults l.out) (g.K.Sink.same_place l.fn.out l.out)
    (g.K.Sink.else_same l.fn.out l.out true)

abbrev pub decreases-loop-text : goal.decreases-loop-text
decreases-loop-text g l = length l.rest
