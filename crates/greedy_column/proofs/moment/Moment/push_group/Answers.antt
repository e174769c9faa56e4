use Rattle.std.proofs.Common.{◌≡◌, ◌++◌, ◌∙◌, sym, rules}
use Rattle.std.proofs.lemmas.Result.{on_ok_weaker}
use Rattle.greedy_column.specs.Desk.{is_marked}
use Rattle.greedy_column.specs.Lines.{net_on}
use Rattle.greedy_column.specs.Uses.{next_after}
use Rattle.greedy_column.proofs.EndLaws.{adds_alone, adds_chain}
use Rattle.greedy_column.proofs.moment.Moment.push_group.Goals as goal

pub returns-then-not-is_joined_above : goal.returns-then-not-is_joined_above
returns-then-not-is_joined_above g c =
    let net = net_on c.args.tracks.now c.args.line in
    on_ok_weaker c.push_alone.result (λ added. λ spans split.
    adds_alone (g.C.Chooses.answers c.args.self.now.chooser.now) (next_after c.args.self.now.ahead.now.uses.items c.args.self.now.column) c.args.tracks.now
    spans c.args.joined.now c.args.line (is_marked c.args.marks.now net) c.args.ending.now.items c.push_alone.new.ending.items (split net)
    (sym c.is_joined_above.ensures ∙ c.if-not-is_joined_above.true) added) c.push_alone.ensures

pub returns : goal.returns
returns g c =
    let net = net_on c.args.tracks.now c.args.line in
    let pushed : c.extend_from_slice.new.self.items ≡ c.args.ending.now.items ++ c.in_ok-ends.ends.items = search rules in
    λ spans split.
    adds_chain (g.C.Chooses.answers c.args.self.now.chooser.now) (next_after c.args.self.now.ahead.now.uses.items c.args.self.now.column) c.args.tracks.now
    spans c.args.joined.now c.args.line (is_marked c.args.marks.now net) c.args.ending.now.items c.in_ok-ends.ends.items _ (split net) c.in_ok-ends.ensures pushed
