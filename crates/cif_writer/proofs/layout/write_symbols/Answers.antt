use Rattle.cif_writer.proofs.layout.write_symbols.Goals as goal
use Rattle.std.proofs.Common.{rules, ◌≡◌, ◌∙◌, ◌+◌, List, ap, arith, length, true}
use Rattle.std.proofs.lemmas.List.{nil_from_length}
use Rattle.cif_text.specs.Printing.{text_of}
use Rattle.cif_text.specs.Written.{symbols_commands}
use Rattle.geom_core.specs.declared.layout.Shape.{Shape}
use Rattle.shelf_io.proofs.SoFar.{so_far-begun, so_far-done, so_far-failed, so_far-more}
use Rattle.cif_writer.specs.Symbols.{symbols_with}
use Rattle.cif_writer.proofs.LayoutLines.{symbols-parts}

pub loop-drawing-init : goal.loop-drawing-init
loop-drawing-init g c = record {
  so_far = so_far-begun _ _ _ _ (g.met.K.Sink.place_here c.args.out.now) (g.met.K.Sink.same_here c.args.out.now);
  count = omega arith;
  reach = c.requires.reach;
  last = c.requires.begun;
}

pub returns-in_err-symbol-clause-wrote : goal.returns-in_err-symbol-clause-wrote
returns-in_err-symbol-clause-wrote g c =
    let n = c.loop-drawing.number in
    let parts = ap (λ (l : List (List Shape)). text_of (symbols_commands (n + 1) (symbols_with c.args.design.now n l))) c.in-Some.ensures.cases.0
    ∙ symbols-parts c.args.design.now n c.in-Some.drawing.now c.in-Some.after.now in
    so_far-failed c.from_residual.result _ (g.met.K.Sink.place_then _ _ _) (g.met.K.Sink.same_then _ _ _) c.from_residual.ensures.0
    c.loop-drawing.invariant.so_far parts (rw (c.kind_name-name.ensures, c.items.ensures) at c.in_err-symbol.ensures.wrote)

pub loop-drawing-preserved : goal.loop-drawing-preserved
loop-drawing-preserved g c =
    let n = c.loop-drawing.number in
    let parts = ap (λ (l : List (List Shape)). text_of (symbols_commands (n + 1) (symbols_with c.args.design.now n l))) c.in-Some.ensures.cases.0
    ∙ symbols-parts c.args.design.now n c.in-Some.drawing.now c.in-Some.after.now in
    let shorter : length c.loop-drawing.rest.now ≡ length c.in-Some.after.now + 1 = search rules in
    let e = c.in_ok-symbol.ensures in
    record {
      so_far = so_far-more (g.met.K.Sink.place_then _ _ _) (g.met.K.Sink.same_then _ _ _ true) c.loop-drawing.invariant.so_far parts (rw (c.kind_name-name.ensures, c.items.ensures) at e.wrote);
      count = omega (arith, c.loop-drawing.invariant.count, shorter);
      reach = search rules;
      last = e.layer;
    }

pub returns-clause-wrote : goal.returns-clause-wrote
returns-clause-wrote g c =
    let n = c.loop-drawing.number in
    let none = ap (λ (l : List (List Shape)). text_of (symbols_commands (n + 1) (symbols_with c.args.design.now n l)))
    (nil_from_length c.loop-drawing.rest.now c.in_default.ensures.cases) in
    so_far-done _ none c.loop-drawing.invariant.so_far
