use Rattle.std.proofs.Common.{rules, ◌≡◌, ◌∙◌, ap, arith, length, refl, sym, true}
use Rattle.shelf_io.proofs.SoFar.{so_far-begun, so_far-failed, so_far-more}
use Rattle.cif_writer.proofs.LayoutLines.{nets-layer, nets-parts}
use Rattle.cif_writer.proofs.labels.write_nets.Goals as goal

pub loop-others-init : goal.loop-others-init
loop-others-init g c =
    let all : c.items-rest.result.now ≡ c.args.cell.now.kind.now.terminals = search rules in
    record {
      so_far = rw all (so_far-begun _ _ _ _ (g.met.K.Sink.place_here c.args.out.now) (g.met.K.Sink.same_here c.args.out.now));
      count = omega (arith, ap length all);
      layer = rw all refl;
    }

pub returns-in_err-write_label-clause-wrote : goal.returns-in_err-write_label-clause-wrote
returns-in_err-write_label-clause-wrote g c =
    let parts = nets-parts c.args.parts.now.rules.now c.args.parts.now.design.now c.args.cell.now.instance c.args.cell.now.kind.now c.args.cell.now.place.now c.loop-others.text.last c.loop-others.terminal c.in-Some.ensures.cases.0 in
    so_far-failed c.from_residual.result _ (g.met.K.Sink.place_then _ _ _) (g.met.K.Sink.same_then _ _ _) c.from_residual.ensures.0
    c.loop-others.invariant.so_far parts (rw c.terminal_label-label.ensures.label at c.in_err-write_label.ensures.wrote)

pub loop-others-preserved : goal.loop-others-preserved
loop-others-preserved g c =
    let is = c.in-Some.ensures.cases.0 in
    let parts = nets-parts c.args.parts.now.rules.now c.args.parts.now.design.now c.args.cell.now.instance c.args.cell.now.kind.now c.args.cell.now.place.now c.loop-others.text.last c.loop-others.terminal is in
    let behind = nets-layer c.args.parts.now.rules.now c.args.parts.now.design.now c.args.cell.now.instance c.args.cell.now.kind.now c.args.cell.now.place.now c.loop-others.text.last c.loop-others.terminal is in
    let e = c.in_ok-write_label.ensures in
    let last = rw c.terminal_label-label.ensures.label at e.layer in
    record {
      so_far = rw last (so_far-more (g.met.K.Sink.place_then _ _ _) (g.met.K.Sink.same_then _ _ _ true) c.loop-others.invariant.so_far parts
          (rw c.terminal_label-label.ensures.label at e.wrote));
      count = omega (arith, c.loop-others.invariant.count, ap length is);
      layer = rw last (sym behind ∙ c.loop-others.invariant.layer);
    }
