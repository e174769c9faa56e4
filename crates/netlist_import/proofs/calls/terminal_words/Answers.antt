use Rattle.std.proofs.Common.{ap, drop, sym, ◌+◌, ◌∷◌, ◌∙◌}
use Rattle.std.proofs.lemmas.List.{drop_all, drop_more}
use Rattle.std.proofs.lemmas.Result.{err_from_is_err_and}
use Rattle.netlist_import.proofs.EachLaws.{each-end, each-fail, each-on}
use Rattle.netlist_import.proofs.calls.terminal_words.Goals as goal

pub returns-in_err-word : goal.returns-in_err-word
returns-in_err-word c =
    let p = err_from_is_err_and c.from_residual.result c.from_residual.ensures.1 in
    let at = drop_more c.args.names.now c.loop-name.name-index c.name-item.result c.loop-name-test.true ∙ ap (λ x. x ∷ drop (c.loop-name.name-index + 1) c.args.names.now) (sym c.name-item.is) in
    rw (p.1, p.2) (each-fail _ _ c.loop-name.found.items _ _ _ _ at (rw c.items.ensures at c.in_err-word.ensures) c.loop-name.invariant)

pub loop-name-preserved : goal.loop-name-preserved
loop-name-preserved c =
    let at = drop_more c.args.names.now c.loop-name.name-index c.name-item.result c.loop-name-test.true ∙ ap (λ x. x ∷ drop (c.loop-name.name-index + 1) c.args.names.now) (sym c.name-item.is) in
    rw c.in_ok-push.ensures.items (each-on _ c.loop-name.found.items _ _ _ _ _ at (rw c.items.ensures at c.in_ok-word.ensures) c.loop-name.invariant)

pub returns : goal.returns
returns c = each-end _ c.loop-name.found.items _ _ (drop_all c.loop-name.name-index c.args.names.now c.loop-name-test.false) c.loop-name.invariant
