use Rattle.std.proofs.Common.{ap, drop, sym, ◌+◌, ◌∷◌, ◌∙◌}
use Rattle.std.proofs.lemmas.List.{drop_more}
use Rattle.std.proofs.lemmas.Result.{err_from_is_err_and}
use Rattle.netlist_import.proofs.LoopLaws.{names-end, names-fail, names-on}
use Rattle.netlist_import.proofs.names.check_instances.Goals as goal

pub returns-in_err-check_name : goal.returns-in_err-check_name
returns-in_err-check_name c =
    let p = err_from_is_err_and c.from_residual.result c.from_residual.ensures.1 in
    let at = drop_more c.args.names.now c.loop-name.name-index c.name-item.result c.loop-name-test.true ∙ ap (λ x. x ∷ drop (c.loop-name.name-index + 1) c.args.names.now) (sym c.name-item.is) in
    rw (p.1, p.2) (names-fail _ _ _ _ _ _ at c.in_err-check_name.ensures.tested c.loop-name.invariant)

pub loop-name-preserved : goal.loop-name-preserved
loop-name-preserved c =
    let at = drop_more c.args.names.now c.loop-name.name-index c.name-item.result c.loop-name-test.true ∙ ap (λ x. x ∷ drop (c.loop-name.name-index + 1) c.args.names.now) (sym c.name-item.is) in
    names-on _ _ _ _ _ _ at c.in_ok-check_name.ensures.tested c.in_ok-check_name.ensures.grown c.loop-name.invariant

pub returns : goal.returns
returns c = names-end _ _ _ _ c.loop-name-test.false c.loop-name.invariant
