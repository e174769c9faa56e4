use Rattle.std.proofs.Common.{ap, drop, sym, ◌+◌, ◌∷◌, ◌∙◌}
use Rattle.std.proofs.lemmas.List.{drop_more}
use Rattle.std.proofs.lemmas.Result.{err_from_is_err_and}
use Rattle.list_facts.proofs.TextLaws.{texts-append}
use Rattle.netlist_import.proofs.LoopLaws.{terminals-end, terminals-fail, terminals-on}
use Rattle.netlist_import.proofs.terminals.check_terminals.Goals as goal

pub returns-in_err-check_terminal : goal.returns-in_err-check_terminal
returns-in_err-check_terminal c =
    let p = err_from_is_err_and c.from_residual.result c.from_residual.ensures.1 in
    let at = drop_more c.args.terminals.now c.loop-terminal.terminal-index c.terminal-item.result c.loop-terminal-test.true ∙ ap (λ x. x ∷ drop (c.loop-terminal.terminal-index + 1) c.args.terminals.now) (sym c.terminal-item.is) in
    rw (p.1, p.2) (terminals-fail _ _ _ _ _ _ _ _ at (rw c.as_slice.ensures.value at c.in_err-check_terminal.ensures) c.loop-terminal.invariant)

pub loop-terminal-preserved : goal.loop-terminal-preserved
loop-terminal-preserved c =
    let at = drop_more c.args.terminals.now c.loop-terminal.terminal-index c.terminal-item.result c.loop-terminal-test.true ∙ ap (λ x. x ∷ drop (c.loop-terminal.terminal-index + 1) c.args.terminals.now) (sym c.terminal-item.is) in
    terminals-on _ _ _ _ _ _ _ _ at (rw c.as_slice.ensures.value at c.in_ok-check_terminal.ensures)
    (rw (c.in_ok-push.ensures.items, c.items.ensures) (texts-append c.loop-terminal.seen.items _)) c.loop-terminal.invariant

pub returns : goal.returns
returns c = terminals-end _ _ _ _ _ _ c.loop-terminal-test.false c.loop-terminal.invariant
