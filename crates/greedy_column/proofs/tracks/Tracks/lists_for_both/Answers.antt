use Rattle.std.proofs.Common.{length, rules, arith}
use Rattle.greedy_column.specs.Lines.{is_sought}
use Rattle.greedy_column.specs.declared.lines.Sought.TheVariants.{Open, Own}
use Rattle.greedy_column.proofs.LineLaws.{AreLines-within, LieWithin-found}
use Rattle.greedy_column.proofs.tracks.Tracks.lists_for_both.Goals as goal

pub returns-clause-one_all_are : goal.returns-clause-one_all_are
returns-clause-one_all_are c =
    AreLines-within (length c.args.self.now) c.loop-track.one_all.items (omega (arith, c.list-rest.ensures.few))
    (LieWithin-found (is_sought (Open c.args.one)) c.loop-track.line c.args.self.now c.loop-track.rest.now c.loop-track.one_all.items (search rules)
    c.loop-track.invariant.one_all_so_far)

pub returns-clause-one_own_are : goal.returns-clause-one_own_are
returns-clause-one_own_are c =
    AreLines-within (length c.args.self.now) c.loop-track.one_own.items (omega (arith, c.list-rest.ensures.few))
    (LieWithin-found (is_sought (Own c.args.one)) c.loop-track.line c.args.self.now c.loop-track.rest.now c.loop-track.one_own.items (search rules)
    c.loop-track.invariant.one_own_so_far)

pub returns-clause-other_all_are : goal.returns-clause-other_all_are
returns-clause-other_all_are c =
    AreLines-within (length c.args.self.now) c.loop-track.other_all.items (omega (arith, c.list-rest.ensures.few))
    (LieWithin-found (is_sought (Open c.args.other)) c.loop-track.line c.args.self.now c.loop-track.rest.now c.loop-track.other_all.items (search rules)
    c.loop-track.invariant.other_all_so_far)

pub returns-clause-other_own_are : goal.returns-clause-other_own_are
returns-clause-other_own_are c =
    AreLines-within (length c.args.self.now) c.loop-track.other_own.items (omega (arith, c.list-rest.ensures.few))
    (LieWithin-found (is_sought (Own c.args.other)) c.loop-track.line c.args.self.now c.loop-track.rest.now c.loop-track.other_own.items (search rules)
    c.loop-track.invariant.other_own_so_far)
