use Rattle.std.proofs.Common.{◌∙◌, ap, sym}
use Rattle.greedy_column.specs.Moving.{is_within}
use Rattle.greedy_column.proofs.StretchLaws.{found_on, none_past}
use Rattle.greedy_column.proofs.free_lines.FreeLines.stretch_of.Goals as goal

pub returns-in-Some-clause-stretch : goal.returns-in-Some-clause-stretch
returns-in-Some-clause-stretch c = λ net line fits foreign within.
    none_past c.args.spans.now c.in-Some.vertical c.args.line net line c.args.self.now (sym c.in-Some.ensures) foreign
    (ap (λ window. is_within window line) (sym c.lines.ensures) ∙ within)

pub returns-in-Some-clause-here : goal.returns-in-Some-clause-here
returns-in-Some-clause-here c =
    none_past c.args.spans.now c.in-Some.vertical c.args.line c.args.net c.args.line c.args.self.now (sym c.in-Some.ensures) c.requires
    (found_on c.args.spans.now c.in-Some.vertical c.args.line (sym c.in-Some.ensures))
