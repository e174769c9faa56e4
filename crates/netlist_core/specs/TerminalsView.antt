-- the terminals of lines
use Rattle.std.specs.Prelude.{◌≡◌, ◌<◌, ◌^◌, length}
use Rattle.list_facts.specs.Texts.{texts}
use Rattle.netlist_core.specs.Cells.{power_names, terminal_names}
use Rattle.netlist_core.specs.declared.terminals.Terminals.TheInside.{Inside}

-- the names are those of the lines, which are fewer than 2 ^ 32
pub record AreTerminals (a : Inside) : Type 0 where
  pub few : length a.lines.now < 2 ^ 32
  pub names : a.names ≡ terminal_names a.lines.now
  pub power : texts a.power.keys ≡ power_names a.lines.now
