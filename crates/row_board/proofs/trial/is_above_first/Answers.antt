use Rattle.std.proofs.Common.{subst}
use Rattle.std.specs.Bool.{OnTrue}
use Rattle.std.specs.Prelude.{◌<◌, ℕ}
use Rattle.row_board.proofs.JoinLaws.{least-either}
use Rattle.row_board.proofs.trial.is_above_first.Goals as goal

pub returns : goal.returns
returns c =
    let t = c.args.costs.now in
    subst (λ (n : ℕ). OnTrue c.is_above-2.result (c.args.limit < n)) (least-either t.design c.args.rows.now t.standings c.args.a c.args.b c.args.one c.args.other c.args.cost) c.is_above-2.ensures
