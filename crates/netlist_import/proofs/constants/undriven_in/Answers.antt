use Rattle.std.proofs.Common.{ap, drop, sym, ◌+◌, ◌∷◌, ◌∙◌}
use Rattle.std.proofs.lemmas.List.{drop_more}
use Rattle.netlist_import.proofs.LoopLaws.{undriven-end, undriven-off, undriven-on}
use Rattle.netlist_import.proofs.constants.undriven_in.Goals as goal

pub loop-constant-preserved-then-is_driven : goal.loop-constant-preserved-then-is_driven
loop-constant-preserved-then-is_driven c =
    let all = c.args.constants.now in
    let at = drop_more all c.loop-constant.constant-index c.constant-item.result c.loop-constant-test.true ∙ ap (λ x. x ∷ drop (c.loop-constant.constant-index + 1) all) (sym c.constant-item.is) in
    undriven-off _ _ _ c.loop-constant.found.items _ _ _ _ at (rw (c.renamed-net.ensures, c.items.ensures) at (sym c.is_driven.ensures ∙ c.if-is_driven.true)) c.loop-constant.invariant

pub loop-constant-preserved : goal.loop-constant-preserved
loop-constant-preserved c =
    let all = c.args.constants.now in
    let at = drop_more all c.loop-constant.constant-index c.constant-item.result c.loop-constant-test.true ∙ ap (λ x. x ∷ drop (c.loop-constant.constant-index + 1) all) (sym c.constant-item.is) in
    rw c.in_ok-push.ensures.items
    (undriven-on _ _ _ c.loop-constant.found.items _ _ _ _ _ at (rw c.items.ensures at c.renamed-net.ensures) (rw (c.renamed-net.ensures, c.items.ensures) at (sym c.is_driven.ensures ∙ c.if-is_driven.false)) c.loop-constant.invariant)

pub returns : goal.returns
returns c = undriven-end _ _ _ c.loop-constant.found.items _ _ _ c.loop-constant-test.false c.loop-constant.invariant
