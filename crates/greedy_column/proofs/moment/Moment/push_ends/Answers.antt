use Rattle.std.proofs.Common.{◌∙◌, sym}
use Rattle.std.proofs.lemmas.Result.{on_ok_weaker}
use Rattle.greedy_column.specs.Uses.{next_after}
use Rattle.greedy_column.proofs.EndLaws.{adds_begun, adds_free, adds_joined}
use Rattle.greedy_column.proofs.moment.Moment.push_ends.Goals as goal

pub returns-then-net-eq0 : goal.returns-then-net-eq0
returns-then-net-eq0 g c = λ spans split.
    adds_free (g.C.Chooses.answers c.args.self.now.chooser.now) (next_after c.args.self.now.ahead.now.uses.items c.args.self.now.column) c.args.tracks.now
    spans c.args.joined.now c.args.net c.args.line c.args.ending.now.items c.if-net-eq0.true

pub returns-then-is_joined_below : goal.returns-then-is_joined_below
returns-then-is_joined_below g c = λ spans split.
    adds_joined (g.C.Chooses.answers c.args.self.now.chooser.now) (next_after c.args.self.now.ahead.now.uses.items c.args.self.now.column) c.args.tracks.now
    spans c.args.joined.now c.args.net c.args.line c.args.ending.now.items c.if-net-eq0.false (sym c.is_joined_below.ensures ∙ c.if-is_joined_below.true)

pub returns : goal.returns
returns g c =
    on_ok_weaker c.push_group.result (λ adds. λ spans split.
    adds_begun (g.C.Chooses.answers c.args.self.now.chooser.now) (next_after c.args.self.now.ahead.now.uses.items c.args.self.now.column) c.args.tracks.now
    spans c.args.joined.now c.args.net c.args.line c.args.ending.now.items c.push_group.new.ending.items c.if-net-eq0.false
    (sym c.is_joined_below.ensures ∙ c.if-is_joined_below.false) (adds spans split)) c.push_group.ensures
