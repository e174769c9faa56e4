use Rattle.std.proofs.Common.{ℕ, not, eqb, sym, subst}
use Rattle.greedy_column.specs.Lines.{AreLines}
use Rattle.greedy_column.proofs.LineLaws.{AreLines-filter}
use Rattle.greedy_column.proofs.lines.Lines.leave_out.Goals as goal

pub invariant_of-self : goal.invariant_of-self
invariant_of-self c =
    subst AreLines (sym c.leave_out.ensures) (AreLines-filter (λ (other : ℕ). not (eqb other c.args.line)) c.self.inside.list.items c.self.invariant)
