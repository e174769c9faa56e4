use Rattle.std.proofs.Common.{length, rules, arith}
use Rattle.greedy_column.specs.Lines.{is_sought}
use Rattle.greedy_column.specs.declared.lines.Sought.TheVariants.{Open, Own}
use Rattle.greedy_column.proofs.LineLaws.{AreLines-within, LieWithin-found}
use Rattle.greedy_column.proofs.tracks.Tracks.lists_for.Goals as goal

pub returns-clause-all_are : goal.returns-clause-all_are
returns-clause-all_are c =
    AreLines-within (length c.args.self.now) c.loop-track.all.items (omega (arith, c.list-rest.ensures.few))
    (LieWithin-found (is_sought (Open c.args.net)) c.loop-track.line c.args.self.now c.loop-track.rest.now c.loop-track.all.items (search rules)
    c.loop-track.invariant.all_so_far)

pub returns-clause-own_are : goal.returns-clause-own_are
returns-clause-own_are c =
    AreLines-within (length c.args.self.now) c.loop-track.own.items (omega (arith, c.list-rest.ensures.few))
    (LieWithin-found (is_sought (Own c.args.net)) c.loop-track.line c.args.self.now c.loop-track.rest.now c.loop-track.own.items (search rules)
    c.loop-track.invariant.own_so_far)
