use Rattle.std.proofs.Common.{◌≡◌, find, length}
use Rattle.greedy_column.specs.declared.span.Span.{Span}
use Rattle.greedy_column.specs.Moving.{is_within, lines_of}
use Rattle.greedy_column.proofs.stretch.covering.Given as goal

abbrev pub invariant-loop-vertical : goal.invariant-loop-vertical
invariant-loop-vertical l =
    find (λ (s : Span). is_within (lines_of s) l.line) l.rest ≡ find (λ (s : Span). is_within (lines_of s) l.line) l.verticals

abbrev pub decreases-loop-vertical : goal.decreases-loop-vertical
decreases-loop-vertical l = length l.rest
