use Rattle.std.proofs.Common.{◌≡◌, ◌∙◌, List, ℕ, Some, None, ap, option_map, subst, sym}
use Rattle.design_model.specs.declared.design.Position.{Position}
use Rattle.geom_core.specs.declared.layout.Shape.{Shape}
use Rattle.cif_writer.specs.LabelParts.{IsExtentInTwiceReach, shape_beside}
use Rattle.cif_writer.specs.Labels.{mark_at}
use Rattle.cif_writer.proofs.LabelLaws.{no-pin, no-shape, one-pin, shape-near}
use Rattle.cif_writer.proofs.NearMiddles.{placed-near}
use Rattle.cif_writer.proofs.marks.terminal_label.Goals as goal

pub returns-in_default-clause-label : goal.returns-in_default-clause-label
returns-in_default-clause-label c =
    let none : shape_beside c.args.terminal c.args.cell.now.kind.now.positions c.args.cell.now.pins.now ≡ None =
    ap (λ (l : List Position). shape_beside c.args.terminal l c.args.cell.now.pins.now) (sym c.items.ensures) ∙ sym c.in_default.ensures.shape in
    sym (no-shape c.args.parts.now.rules.now c.args.parts.now.design.now c.args.cell.now.instance c.args.cell.now.kind.now c.args.cell.now.pins.now c.args.cell.now.place.now c.requires.cell c.args.terminal none)

pub returns-in_default-pin_at-clause-label : goal.returns-in_default-pin_at-clause-label
returns-in_default-pin_at-clause-label c =
    let found : shape_beside c.args.terminal c.args.cell.now.kind.now.positions c.args.cell.now.pins.now ≡ Some c.in-Some.shape.now =
    ap (λ (l : List Position). shape_beside c.args.terminal l c.args.cell.now.pins.now) (sym c.items.ensures) ∙ sym c.in-Some.ensures.shape in
    sym (no-pin c.args.parts.now.rules.now c.args.parts.now.design.now c.args.cell.now.instance c.args.cell.now.kind.now c.args.cell.now.pins.now c.args.cell.now.place.now c.requires.cell c.args.terminal c.in-Some.shape.now found (sym c.in_default-pin_at.ensures))

pub returns-in_default-begun_net-clause-label : goal.returns-in_default-begun_net-clause-label
returns-in_default-begun_net-clause-label c =
    let found : shape_beside c.args.terminal c.args.cell.now.kind.now.positions c.args.cell.now.pins.now ≡ Some c.in-Some.shape.now =
    ap (λ (l : List Position). shape_beside c.args.terminal l c.args.cell.now.pins.now) (sym c.items.ensures) ∙ sym c.in-Some.ensures.shape in
    sym (one-pin c.args.parts.now.rules.now c.args.parts.now.design.now c.args.cell.now.instance c.args.cell.now.kind.now c.args.cell.now.pins.now c.args.cell.now.place.now c.requires.cell c.args.terminal c.in-Some.shape.now found c.in-Some-pin_at.pin (sym c.in-Some-pin_at.ensures)
    ∙ ap (option_map (λ (name : List ℕ). mark_at c.args.cell.now.place.now name c.in-Some.shape.now)) (sym c.in_default-begun_net.ensures))

pub moved_shape-requires-clause-shape : goal.moved_shape-requires-clause-shape
moved_shape-requires-clause-shape c =
    let found : shape_beside c.args.terminal c.args.cell.now.kind.now.positions c.args.cell.now.pins.now ≡ Some c.in-Some.shape.now =
    ap (λ (l : List Position). shape_beside c.args.terminal l c.args.cell.now.pins.now) (sym c.items.ensures) ∙ sym c.in-Some.ensures.shape in
    shape-near c.args.parts.now.rules.now c.args.parts.now.design.now c.args.cell.now.instance c.args.cell.now.kind.now c.args.cell.now.pins.now c.args.cell.now.place.now c.requires.cell c.args.terminal c.in-Some.shape.now found

pub returns-clause-label : goal.returns-clause-label
returns-clause-label c =
    let found : shape_beside c.args.terminal c.args.cell.now.kind.now.positions c.args.cell.now.pins.now ≡ Some c.in-Some.shape.now =
    ap (λ (l : List Position). shape_beside c.args.terminal l c.args.cell.now.pins.now) (sym c.items.ensures) ∙ sym c.in-Some.ensures.shape in
    ap (λ (s : Shape). Some (record { name = c.in-Some-begun_net.name.now; shape = s })) c.moved_shape.ensures
    ∙ sym (one-pin c.args.parts.now.rules.now c.args.parts.now.design.now c.args.cell.now.instance c.args.cell.now.kind.now c.args.cell.now.pins.now c.args.cell.now.place.now c.requires.cell c.args.terminal c.in-Some.shape.now found c.in-Some-pin_at.pin (sym c.in-Some-pin_at.ensures)
    ∙ ap (option_map (λ (name : List ℕ). mark_at c.args.cell.now.place.now name c.in-Some.shape.now)) (sym c.in-Some-begun_net.ensures))

pub returns-clause-near : goal.returns-clause-near
returns-clause-near c =
    let found : shape_beside c.args.terminal c.args.cell.now.kind.now.positions c.args.cell.now.pins.now ≡ Some c.in-Some.shape.now =
    ap (λ (l : List Position). shape_beside c.args.terminal l c.args.cell.now.pins.now) (sym c.items.ensures) ∙ sym c.in-Some.ensures.shape in
    subst (λ (s : Shape). IsExtentInTwiceReach s.rect) (sym c.moved_shape.ensures)
    (placed-near c.args.cell.now.place.now c.in-Some.shape.now c.requires.place (shape-near c.args.parts.now.rules.now c.args.parts.now.design.now c.args.cell.now.instance c.args.cell.now.kind.now c.args.cell.now.pins.now c.args.cell.now.place.now c.requires.cell c.args.terminal c.in-Some.shape.now found))
