use Rattle.std.proofs.Common.{◌∙◌}
use Rattle.rule_check.proofs.Holding.{is_held-answer}
use Rattle.rule_check.proofs.covers.is_held.Goals as goal

pub returns : goal.returns
returns c = c.is_some.ensures ∙ is_held-answer c.args.rect.now c.args.rects.now c.holder.result c.holder.ensures.found c.holder.ensures.none
