-- modules found by their names
use Rattle.std.specs.Prelude.{◌≡◌, List, map}
use Rattle.yal_reader.specs.Kept.{module_names}
use Rattle.yal_reader.specs.declared.file.Module.{Module}
use Rattle.list_facts.specs.Texts.{texts}
use Rattle.netlist_core.specs.Cells.{terminals_of}
use Rattle.design_model.specs.declared.design.Terminal.{Terminal}
use Rattle.netlist_core.specs.declared.library.Library.TheInside.{Inside}

-- the terminals of each module
abbrev pub all_terminals : List Module → List (List Terminal)
all_terminals modules = map (λ (m : Module). terminals_of m.lines) modules

-- a library has the names and the terminals of its modules
pub record IsLibrary (a : Inside) : Type 0 where
  pub names : texts a.names.keys ≡ module_names a.modules
  pub terminals : a.terminals.items ≡ all_terminals a.modules
