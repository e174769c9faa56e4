use Rattle.std.proofs.Common.{not, eqb, sym, subst}
use Rattle.greedy_column.specs.Lines.{AreAscending}
use Rattle.greedy_column.proofs.AscentLaws.{AreAscending-filter}
use Rattle.greedy_column.proofs.free_lines.FreeLines.take.Goals as goal

pub take_line-requires : goal.take_line-requires
take_line-requires c = c.self.invariant.ascending

pub invariant_of-self : goal.invariant_of-self
invariant_of-self c =
    subst AreAscending (sym c.take_line.ensures) (AreAscending-filter (λ other. not (eqb other c.args.line)) c.self.inside.list.items c.self.invariant)
