use Rattle.std.proofs.Common.{arith, eqb-true, sym, ◌∙◌}
use Rattle.greedy_column.proofs.AloneLaws.{none_beside}
use Rattle.greedy_column.proofs.tracks.Tracks.holds_alone.Goals as goal

pub returns : goal.returns
returns c = λ one.
    none_beside c.args.net c.args.line c.args.self.now (omega (arith, c.if-line-eq0.false)) (omega (arith, c.if-net-eq0.false))
    (sym c.net_on.ensures ∙ c.if-net_on-net.false) (sym c.held.ensures ∙ eqb-true c.held.result 1 one)
