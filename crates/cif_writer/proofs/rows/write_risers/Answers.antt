use Rattle.cif_writer.proofs.rows.write_risers.Goals as goal
use Rattle.std.proofs.Common.{◌∙◌, List, ap, refl, sym, true}
use Rattle.cif_text.specs.Printing.{text_of}
use Rattle.cif_text.specs.Written.{items_commands, layer_after}
use Rattle.cif_writer.specs.Symbols.{wires_of}
use Rattle.shelf_io.proofs.SoFar.{so_far-begun, so_far-failed, so_far-more}
use Rattle.wire_geom.specs.declared.drawn.Drawn.{Drawn}
use Rattle.cif_writer.proofs.LayoutLines.{risers-parts}

pub loop-riser-init : goal.loop-riser-init
loop-riser-init g c = record {
  so_far = so_far-begun _ _ _ _ (g.met.K.Sink.place_here c.args.out.now) (g.met.K.Sink.same_here c.args.out.now);
  layer = refl;
  reach = c.requires.reach;
}

pub returns-in_err-shape-clause-wrote : goal.returns-in_err-shape-clause-wrote
returns-in_err-shape-clause-wrote g c =
    let parts = ap (λ (l : List Drawn). text_of (items_commands c.loop-riser.text.last (wires_of l))) c.in-Some.ensures.cases.0
    ∙ risers-parts c.loop-riser.text.last c.in-Some.riser.now c.in-Some.after.now in
    so_far-failed c.from_residual.result _ (g.met.K.Sink.place_then _ _ _) (g.met.K.Sink.same_then _ _ _) c.from_residual.ensures.0
    c.loop-riser.invariant.so_far parts c.in_err-shape.ensures.wrote

pub loop-riser-preserved : goal.loop-riser-preserved
loop-riser-preserved g c =
    let is = c.in-Some.ensures.cases.0 in
    let parts = ap (λ (l : List Drawn). text_of (items_commands c.loop-riser.text.last (wires_of l))) is
    ∙ risers-parts c.loop-riser.text.last c.in-Some.riser.now c.in-Some.after.now in
    let e = c.in_ok-shape.ensures in
    let within = rw is at c.loop-riser.invariant.reach in
    record {
      so_far = rw e.layer (so_far-more (g.met.K.Sink.place_then _ _ _) (g.met.K.Sink.same_then _ _ _ true) c.loop-riser.invariant.so_far parts e.wrote);
      layer = rw e.layer (sym (ap (λ (l : List Drawn). layer_after c.loop-riser.text.last (wires_of l)) is) ∙ c.loop-riser.invariant.layer);
      reach = within.1;
    }
