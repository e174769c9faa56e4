-- the design of a text under the sample rules
use Rattle.std.specs.Prelude.{◌≡◌, ℕ, List, Ok}
use Rattle.samples.specs.Sample.{sample}
use Rattle.yal_reader.specs.Numbers.{numbers_of}
use Rattle.yal_reader.specs.YalReads.{yal_reads}
use Rattle.yal_reader.specs.declared.file.YalFile.{YalFile}
use Rattle.design_model.specs.Netlist.{Netlist}
use Rattle.netlist_core.specs.OnGrid.{on_grid}

-- a text reads as a file that is this design under the sample rules
pub record IsSampled (text : List ℕ) (d : Netlist) : Type 0 where
  pub file : YalFile
  pub reads : yal_reads text (numbers_of sample.version sample.decimals) ≡ Ok file
  pub checked : on_grid sample file ≡ Ok d
