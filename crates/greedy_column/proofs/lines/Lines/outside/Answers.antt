use Rattle.std.proofs.Common.{◌∙◌, ap, sym, subst}
use Rattle.greedy_column.specs.Ending.{outside}
use Rattle.greedy_column.specs.Lines.{AreLines}
use Rattle.greedy_column.proofs.LineLaws.{AreLines-filter}
use Rattle.greedy_column.proofs.lines.Lines.outside.Goals as goal

pub invariant_of-result : goal.invariant_of-result
invariant_of-result c =
    subst AreLines (sym (c.in_ok-list.ensures ∙ ap (outside c.args.group.now) c.deref.ensures.value)) (AreLines-filter _ c.self.inside.list.items c.self.invariant)
