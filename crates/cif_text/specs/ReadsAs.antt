-- the layout that a text reads as
use Rattle.std.specs.Prelude.{◌≡◌, ℕ, List, Ok}
use Rattle.geom_core.specs.declared.layout.Layout.{Layout}
use Rattle.cif_text.specs.CifReads.{cif_reads}
use Rattle.cif_text.specs.Meaning.{meaning}
use Rattle.cif_text.specs.declared.command.CifCommand.{CifCommand}

-- a text reads as a layout: it reads as commands, and these mean the layout
pub record ReadsAs (text : List ℕ) (l : Layout) : Type 0 where
  pub commands : List CifCommand
  pub reads : cif_reads text ≡ Ok commands
  pub means : meaning commands ≡ Ok l
