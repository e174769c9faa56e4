use Rattle.std.proofs.Common.{eqb}
use Rattle.greedy_column.proofs.WindowLaws.{past_nothing, past_lower, past_upper, past_cover}
use Rattle.greedy_column.proofs.window.Window.past.Goals as goal

pub returns-then-line-vertical : goal.returns-then-line-vertical
returns-then-line-vertical c = λ other.
    let v = c.args.vertical in
    past_nothing c.args.self.low c.args.self.high c.args.line v.low v.high other (eqb v.net c.args.net) c.requires c.if-vertical-line.true c.if-line-vertical.true

pub returns-then-vertical-line : goal.returns-then-vertical-line
returns-then-vertical-line c = λ other.
    let v = c.args.vertical in
    past_lower c.args.self.low c.args.self.high c.args.line v.low v.high other (eqb v.net c.args.net) c.requires c.max.result c.max.ensures c.if-vertical-line.true c.if-line-vertical.false

pub returns-then-line-vertical-2 : goal.returns-then-line-vertical-2
returns-then-line-vertical-2 c = λ other.
    let v = c.args.vertical in
    past_upper c.args.self.low c.args.self.high c.args.line v.low v.high other (eqb v.net c.args.net) c.requires c.min.result c.min.ensures c.if-vertical-line.false c.if-line-vertical-2.true

pub returns : goal.returns
returns c = λ other.
    let v = c.args.vertical in
    past_cover c.args.self.low c.args.self.high c.args.line v.low v.high other (eqb v.net c.args.net) c.requires c.if-vertical-line.false c.if-line-vertical-2.false
