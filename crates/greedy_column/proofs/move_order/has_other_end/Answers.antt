use Rattle.std.proofs.Common.{◌∙◌, sym}
use Rattle.greedy_column.proofs.SplitLaws.{none_other}
use Rattle.greedy_column.proofs.move_order.has_other_end.Goals as goal

pub returns-then-not-may_have : goal.returns-then-not-may_have
returns-then-not-may_have c =
    none_other c.args.pairs.now c.args.kept.now c.args.net c.args.line (c.requires c.args.net (sym c.may_have.ensures ∙ c.if-not-may_have.true))
