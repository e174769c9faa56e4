use Rattle.std.proofs.Common.{ap, drop, refl, sym, ◌+◌, ◌∷◌, ◌∙◌}
use Rattle.std.proofs.lemmas.List.{drop_more}
use Rattle.netlist_import.proofs.LoopLaws.{renames-end, renames-on}
use Rattle.netlist_import.proofs.nets.renamings_of.Goals as goal

pub loop-join-preserved : goal.loop-join-preserved
loop-join-preserved c =
    let joins = c.items-join-items.result.now in
    let found = drop_more joins c.loop-join.join-index c.join-item.result c.loop-join-test.true ∙ ap (λ x. x ∷ drop (c.loop-join.join-index + 1) joins) (sym c.join-item.is) in
    let at = rw c.items-join-items.ensures at found in
    rw c.in_ok-push.ensures.items
    (renames-on c.args.netlist.now c.loop-join.found.items _ _ _ _ _ at
    (c.renaming_of.ensures ∙ rw (c.renamed-first.ensures, c.renamed-second.ensures, c.as_slice.ensures.value, c.as_slice-in-loop-join.ensures.value, c.items.ensures, c.items-in-loop-join.ensures) refl) c.loop-join.invariant)

pub returns : goal.returns
returns c = renames-end c.args.netlist.now c.loop-join.found.items _ _ _ (rw c.items-join-items.ensures at c.loop-join-test.false) c.loop-join.invariant
