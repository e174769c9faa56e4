use Rattle.std.proofs.Common.{◌≡◌, ◌++◌, drop}
use Rattle.port_rows.proofs.copies.copied_terminals.Given as goal

abbrev pub invariant-loop-terminal : goal.invariant-loop-terminal
invariant-loop-terminal l = l.copies.items ++ drop l.terminal-index l.terminals ≡ l.terminals
