use Rattle.std.proofs.Common.{◌≡◌, drop}
use Rattle.netlist_core.specs.Answers.{each}
use Rattle.netlist_core.specs.Cells.{kind_of}
use Rattle.netlist_core.proofs.EachLaws.{after_front}
use Rattle.netlist_core.proofs.used.kinds_of.Given as goal

abbrev pub invariant-loop-numbered : goal.invariant-loop-numbered
invariant-loop-numbered l =
    after_front l.kinds.items (each (kind_of l.rules) (drop l.numbered-index l.used)) ≡ each (kind_of l.rules) l.used
