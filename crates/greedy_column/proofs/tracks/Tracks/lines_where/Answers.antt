use Rattle.std.proofs.Common.{length, rules, arith}
use Rattle.greedy_column.specs.Lines.{is_sought}
use Rattle.greedy_column.proofs.LineLaws.{AreLines-within, LieWithin-found}
use Rattle.greedy_column.proofs.AscentLaws.{Ascending-found}
use Rattle.greedy_column.proofs.tracks.Tracks.lines_where.Goals as goal

pub returns-clause-are : goal.returns-clause-are
returns-clause-are c =
    AreLines-within (length c.args.self.now) c.loop-track.lines.items (omega (arith, c.list-rest.ensures.few))
    (LieWithin-found (is_sought c.args.sought) c.loop-track.line c.args.self.now c.loop-track.rest.now c.loop-track.lines.items (search rules)
    c.loop-track.invariant.so_far)

pub returns-clause-ascending : goal.returns-clause-ascending
returns-clause-ascending c =
    Ascending-found (is_sought c.args.sought) c.loop-track.line c.args.self.now c.loop-track.rest.now c.loop-track.lines.items (search rules)
    c.loop-track.invariant.so_far
