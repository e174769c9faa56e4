use Rattle.std.proofs.Common.{◌≡◌, ◌++◌}
use Rattle.list_facts.specs.Texts.{texts}
use Rattle.port_rows.proofs.nets.Nets.copies.Given as goal

abbrev pub invariant-loop-word : goal.invariant-loop-word
invariant-loop-word l = l.copies.items ++ texts l.word-iterator ≡ l.self
