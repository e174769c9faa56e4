use Rattle.std.proofs.Common.{List, Some, map, refl, subst, sym}
use Rattle.cif_text.specs.Printing.{text_of}
use Rattle.cif_text.specs.Written.{items_commands}
use Rattle.geom_core.specs.declared.layout.Shape.{Shape}
use Rattle.geom_core.specs.declared.turn.Place.{Place}
use Rattle.shelf_io.proofs.WritesLaws.{writes-both, writes-stopped}
use Rattle.shelf_io.proofs.WroteLaws.{writes-none}
use Rattle.cif_writer.specs.InReach.{IsPlaceInReach}
use Rattle.cif_writer.specs.LabelParts.{IsExtentInTwiceReach}
use Rattle.cif_writer.specs.Labels.{Mark, label_of, mark_at, terminal_marks}
use Rattle.cif_writer.proofs.LayoutLines.{marks-parts}
use Rattle.cif_writer.proofs.NearMiddles.{placed-near}
use Rattle.cif_writer.proofs.labels.write_labels.Goals as goal

pub returns-in_default-clause-wrote : goal.returns-in_default-clause-wrote
returns-in_default-clause-wrote g c =
    rw (c.in_default.ensures.none refl) (writes-none _ c.args.text.now.buffered _ _ (g.met.K.Sink.place_here c.args.out.now) (g.met.K.Sink.same_here c.args.out.now))

pub returns-in_default-clause-layer : goal.returns-in_default-clause-layer
returns-in_default-clause-layer g c = rw (c.in_default.ensures.none refl) refl

pub moved_shape-requires-clause-place : goal.moved_shape-requires-clause-place
moved_shape-requires-clause-place g c = subst (λ (p : Place). IsPlaceInReach p) (sym c.in-Some.ensures.cell.at) c.requires.place

pub label-requires : goal.label-requires
label-requires g c =
    let at : IsPlaceInReach c.in-Some.cell.place.now = subst (λ (p : Place). IsPlaceInReach p) (sym c.in-Some.ensures.cell.at) c.requires.place in
    subst (λ (s : Shape). IsExtentInTwiceReach s.rect) (sym c.moved_shape.ensures)
    (placed-near c.in-Some.cell.place.now c.in-Some.cell.outline.now at c.in-Some.ensures.cell.outline_near)

pub write_nets-requires-clause-place : goal.write_nets-requires-clause-place
write_nets-requires-clause-place g c = subst (λ (p : Place). IsPlaceInReach p) (sym c.in-Some.ensures.cell.at) c.requires.place

pub returns-in_err-label-clause-wrote : goal.returns-in_err-label-clause-wrote
returns-in_err-label-clause-wrote g c =
    let mark = mark_at c.in-Some.cell.place.now c.in-Some.cell.name.now c.in-Some.cell.outline.now in
    let nets : List Mark = (terminal_marks c.args.parts.now.rules.now c.args.parts.now.design.now c.in-Some.cell.instance c.in-Some.cell.kind.now c.in-Some.cell.place.now 0 c.in-Some.cell.kind.now.terminals) in
    rw (c.in-Some.ensures.cell.marks, marks-parts c.args.text.now.last mark nets)
    (writes-stopped c.from_residual.result (text_of (items_commands (Some mark.shape.layer) (map label_of nets)))
    c.from_residual.ensures.0 (rw c.moved_shape.ensures at c.in_err-label.ensures.wrote))

pub returns-clause-wrote : goal.returns-clause-wrote
returns-clause-wrote g c =
    let mark = mark_at c.in-Some.cell.place.now c.in-Some.cell.name.now c.in-Some.cell.outline.now in
    let nets : List Mark = (terminal_marks c.args.parts.now.rules.now c.args.parts.now.design.now c.in-Some.cell.instance c.in-Some.cell.kind.now c.in-Some.cell.place.now 0 c.in-Some.cell.kind.now.terminals) in
    let label = c.in_ok-label.ensures in
    rw (c.in-Some.ensures.cell.marks, marks-parts c.args.text.now.last mark nets)
    (writes-both c.write_nets.result (g.met.K.Sink.place_then _ _ _) (g.met.K.Sink.same_then _ _ _) (rw c.moved_shape.ensures at label.wrote)
    (rw (label.layer, c.moved_shape.ensures) at c.write_nets.ensures.wrote))

pub returns-clause-layer : goal.returns-clause-layer
returns-clause-layer g c =
    rw c.in-Some.ensures.cell.marks (rw (c.in_ok-label.ensures.layer, c.moved_shape.ensures) at c.write_nets.ensures.layer)
