-- the layout as which a text reads by its labels
use Rattle.std.specs.Prelude.{◌≡◌, ℕ, List, Ok}
use Rattle.geom_core.specs.declared.layout.Layout.{Layout}
use Rattle.cif_text.specs.CifReads.{cif_reads}
use Rattle.cif_text.specs.declared.command.CifCommand.{CifCommand}
use Rattle.label_reader.specs.Labelled.{labelled}

-- bytes are a text of CIF, whose commands give a layout by the labels on an outline layer
pub record ReadsByLabels (outline bytes : List ℕ) (layout : Layout) : Type 0 where
  pub commands : List CifCommand
  pub reads : cif_reads bytes ≡ Ok commands
  pub labelled_is : labelled outline commands ≡ Ok layout
