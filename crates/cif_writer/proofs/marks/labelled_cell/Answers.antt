use Rattle.std.proofs.Common.{option_map, sym}
use Rattle.cif_writer.proofs.LabelLaws.{cell-labelled, never-empty, never-undrawn, no-instance, no-kind}
use Rattle.cif_writer.proofs.marks.labelled_cell.Goals as goal

pub returns-in_default-instance_of-clause-none : goal.returns-in_default-instance_of-clause-none
returns-in_default-instance_of-clause-none c = λ none. no-instance c.args.parts.now.rules.now c.args.parts.now.design.now c.args.placed.now c.in-Cell.seat c.in-Cell.is (sym c.in_default-instance_of.ensures)

pub returns-in_default-kind_of-clause-none : goal.returns-in_default-kind_of-clause-none
returns-in_default-kind_of-clause-none c = λ none. no-kind c.args.parts.now.rules.now c.args.parts.now.design.now c.args.placed.now c.in-Cell.seat c.in-Cell.is c.in-Some.inst.now (sym c.in-Some.ensures) (sym c.in_default-kind_of.ensures)

pub returns-in_default-drawing_of-clause-none : goal.returns-in_default-drawing_of-clause-none
returns-in_default-drawing_of-clause-none c = λ none.
    absurd (never-undrawn c.args.parts.now.rules.now c.args.parts.now.design.now c.args.placed.now c.in-Cell.seat c.in-Cell.is c.in-Some.inst.now (sym c.in-Some.ensures) c.args.parts.now.drawings.now (option_map (λ firsts. firsts.now) c.args.parts.now.labels)
    c.requires c.in-Some-kind_of.kind.now (sym c.in-Some-kind_of.ensures) (sym c.in_default-drawing_of.ensures))

pub returns-in_default-split_first-clause-none : goal.returns-in_default-split_first-clause-none
returns-in_default-split_first-clause-none c = λ none.
    absurd (never-empty c.args.parts.now.rules.now c.args.parts.now.design.now c.args.placed.now c.in-Cell.seat c.in-Cell.is c.in-Some.inst.now (sym c.in-Some.ensures) c.args.parts.now.drawings.now (option_map (λ firsts. firsts.now) c.args.parts.now.labels)
    c.requires c.in-Some-kind_of.kind.now (sym c.in-Some-kind_of.ensures) c.in-Some-drawing_of.drawing.now (sym c.in-Some-drawing_of.ensures) c.in_default-split_first.ensures.cases)

pub returns-clause-cell : goal.returns-clause-cell
returns-clause-cell c =
    cell-labelled c.args.parts.now.rules.now c.args.parts.now.design.now c.args.placed.now c.in-Cell.seat c.in-Cell.is c.in-Some.inst.now (sym c.in-Some.ensures) c.args.parts.now.drawings.now (option_map (λ firsts. firsts.now) c.args.parts.now.labels)
    c.requires c.in-Some-kind_of.kind.now (sym c.in-Some-kind_of.ensures) c.in-Some-drawing_of.drawing.now c.in-Some-split_first.outline.now c.in-Some-split_first.pins.now
    (sym c.in-Some-drawing_of.ensures) c.in-Some-split_first.ensures.cases.0
