use Rattle.cif_writer.proofs.layout.write_wires.Goals as goal
use Rattle.std.proofs.Common.{rules, ◌≡◌, ◌∙◌, [], List, ap, drop, refl, sym, true}
use Rattle.cif_text.specs.Printing.{text_of}
use Rattle.cif_text.specs.Written.{items_commands}
use Rattle.cif_writer.specs.Symbols.{wires_of}
use Rattle.geom_core.specs.Reach.{IsShapeInReach}
use Rattle.shelf_io.proofs.SoFar.{so_far-begun, so_far-done, so_far-failed, so_far-more}
use Rattle.wire_geom.specs.Drawing.{drawing}
use Rattle.wire_geom.specs.declared.drawn.Drawn.{Drawn}
use Rattle.cif_writer.proofs.LayoutLines.{wires-layer, wires-parts}
use Rattle.std.proofs.lemmas.List.{drop_all}
use Rattle.std_laws.proofs.Every.{every-get}

pub loop-k-init : goal.loop-k-init
loop-k-init g c = record {
  so_far = so_far-begun _ _ _ _ (g.met.K.Sink.place_here c.args.out.now) (g.met.K.Sink.same_here c.args.out.now);
  layer = refl;
}

pub shape-requires : goal.shape-requires
shape-requires g c =
    every-get (λ (a : Drawn). IsShapeInReach a.shape) (drawing c.args.rules.now c.args.base c.args.wiring.now) c.loop-k.k c.shape_at-drawn.result
    c.requires.reach c.shape_at-drawn.ensures

pub returns-in_err-shape-clause-wrote : goal.returns-in_err-shape-clause-wrote
returns-in_err-shape-clause-wrote g c =
    so_far-failed c.from_residual.result _ (g.met.K.Sink.place_then _ _ _) (g.met.K.Sink.same_then _ _ _) c.from_residual.ensures.0
    c.loop-k.invariant.so_far
    (wires-parts c.loop-k.text.last (drawing c.args.rules.now c.args.base c.args.wiring.now) c.loop-k.k c.shape_at-drawn.result c.shape_at-drawn.ensures)
    c.in_err-shape.ensures.wrote

pub loop-k-preserved : goal.loop-k-preserved
loop-k-preserved g c =
    let drawn = drawing c.args.rules.now c.args.base c.args.wiring.now in
    let e = c.in_ok-shape.ensures in
    record {
      so_far = rw e.layer (so_far-more (g.met.K.Sink.place_then _ _ _) (g.met.K.Sink.same_then _ _ _ true) c.loop-k.invariant.so_far
          (wires-parts c.loop-k.text.last drawn c.loop-k.k c.shape_at-drawn.result c.shape_at-drawn.ensures) e.wrote);
      layer = rw e.layer (sym (wires-layer c.loop-k.text.last drawn c.loop-k.k c.shape_at-drawn.result c.shape_at-drawn.ensures) ∙ c.loop-k.invariant.layer);
    }

pub returns-clause-wrote : goal.returns-clause-wrote
returns-clause-wrote g c =
    let none : drop c.loop-k.k (drawing c.args.rules.now c.args.base c.args.wiring.now) ≡ [] = search (rules, drop_all) in
    so_far-done _ (ap (λ (l : List Drawn). text_of (items_commands c.loop-k.text.last (wires_of l))) none) c.loop-k.invariant.so_far
