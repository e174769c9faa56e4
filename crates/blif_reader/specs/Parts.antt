-- what the lines of a model gave
use Rattle.std.specs.Prelude.{List, []}
use Rattle.blif_reader.specs.declared.file.BlifWord.{BlifWord}
use Rattle.blif_reader.specs.declared.file.Gate.{Gate}
use Rattle.blif_reader.specs.declared.file.Join.{Join}

-- the words of inputs and outputs, the gates, the words that are joined, and those of constant nets
pub record Parts : Type 0 where
  pub inputs : List BlifWord
  pub outputs : List BlifWord
  pub gates : List Gate
  pub joins : List Join
  pub constants : List BlifWord

-- a model without lines
abbrev pub no_parts : Parts
no_parts = record { inputs = []; outputs = []; gates = []; joins = []; constants = [] }
