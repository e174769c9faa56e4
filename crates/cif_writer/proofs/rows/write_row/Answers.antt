use Rattle.cif_writer.proofs.rows.write_row.Goals as goal
use Rattle.std.proofs.Common.{◌∙◌, List, ap, is_some, refl, sym, true}
use Rattle.std.proofs.lemmas.List.{nil_from_length}
use Rattle.cif_text.specs.Printing.{text_of}
use Rattle.cif_text.specs.Written.{items_commands, layer_after}
use Rattle.channel_stack.specs.declared.placed.PlacedItem.{PlacedItem}
use Rattle.shelf_io.proofs.SoFar.{so_far-begun, so_far-done, so_far-failed, so_far-more}
use Rattle.cif_writer.specs.Symbols.{copies_of}
use Rattle.cif_writer.proofs.LayoutLines.{row-layer, row-parts}

pub loop-placed-init : goal.loop-placed-init
loop-placed-init g c = record {
  so_far = so_far-begun _ _ _ _ (g.met.K.Sink.place_here c.args.out.now) (g.met.K.Sink.same_here c.args.out.now);
  layer = refl;
  places = c.requires.places;
}

pub returns-in_err-write_item-clause-wrote : goal.returns-in_err-write_item-clause-wrote
returns-in_err-write_item-clause-wrote g c =
    let parts = ap (λ (l : List PlacedItem). text_of (items_commands c.loop-placed.text.last (copies_of (is_some c.args.parts.now.labels) c.args.parts.now.rules.now c.args.parts.now.design.now c.args.feeds l))) c.in-Some.ensures.cases.0
    ∙ row-parts (is_some c.args.parts.now.labels) c.args.parts.now.rules.now c.args.parts.now.design.now c.loop-placed.text.last c.args.feeds c.in-Some.placed.now c.in-Some.after.now in
    so_far-failed c.from_residual.result _ (g.met.K.Sink.place_then _ _ _) (g.met.K.Sink.same_then _ _ _) c.from_residual.ensures.0
    c.loop-placed.invariant.so_far parts c.in_err-write_item.ensures.wrote

pub loop-placed-preserved : goal.loop-placed-preserved
loop-placed-preserved g c =
    let is = c.in-Some.ensures.cases.0 in
    let parts = ap (λ (l : List PlacedItem). text_of (items_commands c.loop-placed.text.last (copies_of (is_some c.args.parts.now.labels) c.args.parts.now.rules.now c.args.parts.now.design.now c.args.feeds l))) is
    ∙ row-parts (is_some c.args.parts.now.labels) c.args.parts.now.rules.now c.args.parts.now.design.now c.loop-placed.text.last c.args.feeds c.in-Some.placed.now c.in-Some.after.now in
    let behind = ap (λ (l : List PlacedItem). layer_after c.loop-placed.text.last (copies_of (is_some c.args.parts.now.labels) c.args.parts.now.rules.now c.args.parts.now.design.now c.args.feeds l)) is
    ∙ row-layer (is_some c.args.parts.now.labels) c.args.parts.now.rules.now c.args.parts.now.design.now c.loop-placed.text.last c.args.feeds c.in-Some.placed.now c.in-Some.after.now in
    let e = c.in_ok-write_item.ensures in
    record {
      so_far = rw e.layer (so_far-more (g.met.K.Sink.place_then _ _ _) (g.met.K.Sink.same_then _ _ _ true) c.loop-placed.invariant.so_far parts e.wrote);
      layer = rw e.layer (sym behind ∙ c.loop-placed.invariant.layer);
      places = (rw is at c.loop-placed.invariant.places).1;
    }

pub returns-clause-wrote : goal.returns-clause-wrote
returns-clause-wrote g c =
    let none = ap (λ (l : List PlacedItem). text_of (items_commands c.loop-placed.text.last (copies_of (is_some c.args.parts.now.labels) c.args.parts.now.rules.now c.args.parts.now.design.now c.args.feeds l)))
    (nil_from_length c.loop-placed.rest.now c.in_default.ensures.cases) in
    so_far-done _ none c.loop-placed.invariant.so_far
