use Rattle.std.proofs.Common.{◌≡◌, drop, fold, map}
use Rattle.geom_core.specs.declared.layout.Cell.{Cell}
use Rattle.list_facts.specs.Names.{mention, mentions}
use Rattle.list_facts.specs.Texts.{texts}
use Rattle.design_model.specs.CellsMatch.{cell_names}
use Rattle.geom_extract.proofs.starts.cell_names.Given as goal

abbrev pub invariant-loop-cell : goal.invariant-loop-cell
invariant-loop-cell l =
    fold mention (texts l.names.keys) (map (λ (c : Cell). c.name) (drop l.cell-index l.cell-items)) ≡ mentions (cell_names l.layout)
