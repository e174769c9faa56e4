use Rattle.std.proofs.Common.{ℕ, not, eqb, rules}
use Rattle.std.proofs.lemmas.Fn.{filter_same}
use Rattle.greedy_column.proofs.lines.leave_out.Goals as goal

pub returns : goal.returns
returns c = filter_same _ (λ (other : ℕ). not (eqb other c.args.line)) _ (λ x b f' k. search rules) _ _ c.retain.ensures.filtered
