use Rattle.std.proofs.Common.{◌∙◌, sym, true, false}
use Rattle.cif_text.proofs.PathLaws.{closed-is}
use Rattle.cif_text.proofs.paths.are_closed_along.Goals as goal

pub returns-then-are_along : goal.returns-then-are_along
returns-then-are_along c =
    sym (closed-is c.args.path.now c.in-Some.others.now c.in-Some-split_last.field-0-1.now c.in-Some.first.now c.in-Some-split_last.last.now true
    c.in-Some.ensures.cases.0 c.in-Some-split_last.ensures.cases.0 (sym c.are_along.ensures ∙ c.if-are_along.true) ∙ sym c.is_along.ensures)

pub returns-else-are_along : goal.returns-else-are_along
returns-else-are_along c =
    sym (closed-is c.args.path.now c.in-Some.others.now c.in-Some-split_last.field-0-1.now c.in-Some.first.now c.in-Some-split_last.last.now false
    c.in-Some.ensures.cases.0 c.in-Some-split_last.ensures.cases.0 (sym c.are_along.ensures ∙ c.if-are_along.false) ∙ sym c.if-are_along.false)
