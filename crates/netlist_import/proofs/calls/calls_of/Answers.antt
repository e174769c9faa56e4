use Rattle.std.proofs.Common.{ap, arith, drop, sym, ◌+◌, ◌∷◌, ◌∙◌}
use Rattle.std.proofs.lemmas.List.{drop_all, drop_more}
use Rattle.std.proofs.lemmas.Result.{err_from_is_err_and}
use Rattle.std.specs.List.{enumerate_from}
use Rattle.netlist_import.proofs.EachLaws.{each-end, each-fail, each-on}
use Rattle.netlist_import.proofs.calls.calls_of.Goals as goal

pub returns-in_err-call : goal.returns-in_err-call
returns-in_err-call c =
    let p = err_from_is_err_and c.from_residual.result c.from_residual.ensures.1 in
    let at = drop_more c.args.gates.now c.loop-gate.gate-index c.gate-item.result c.loop-gate-test.true ∙ ap (λ x. x ∷ drop (c.loop-gate.gate-index + 1) c.args.gates.now) (sym c.gate-item.is) in
    rw (p.1, p.2) (each-fail _ _ c.loop-gate.found.items _ _ _ _ (ap (enumerate_from c.loop-gate.number) at) c.in_err-call.ensures c.loop-gate.invariant.front)

pub loop-gate-preserved : goal.loop-gate-preserved
loop-gate-preserved c =
    let at = drop_more c.args.gates.now c.loop-gate.gate-index c.gate-item.result c.loop-gate-test.true ∙ ap (λ x. x ∷ drop (c.loop-gate.gate-index + 1) c.args.gates.now) (sym c.gate-item.is) in
    record {
      count = omega (arith, c.loop-gate.invariant.count);
      front = rw c.in_ok-push.ensures.items (each-on _ c.loop-gate.found.items _ _ _ _ _ (ap (enumerate_from c.loop-gate.number) at) c.in_ok-call.ensures c.loop-gate.invariant.front);
    }

pub returns : goal.returns
returns c =
    each-end _ c.loop-gate.found.items _ _ (ap (enumerate_from c.loop-gate.number) (drop_all c.loop-gate.gate-index c.args.gates.now c.loop-gate-test.false)) c.loop-gate.invariant.front
