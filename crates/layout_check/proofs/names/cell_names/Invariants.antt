use Rattle.std.proofs.Common.{◌≡◌, map, take}
use Rattle.geom_core.specs.declared.layout.Cell.{Cell}
use Rattle.list_facts.specs.Texts.{texts}
use Rattle.layout_check.proofs.names.cell_names.Given as goal

abbrev pub invariant-loop-cell : goal.invariant-loop-cell
invariant-loop-cell l = texts l.names.items ≡ map (λ (c : Cell). c.name) (take l.cell-index l.cell-items)
