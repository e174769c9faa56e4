-- the names of ports as contracts see them
use Rattle.list_facts.specs.Texts.{texts}
use Rattle.port_rows.specs.PortNames.{PortNames, ArePorts}
use Rattle.port_rows.specs.declared.names.Ports.TheInside.{Inside}

abbrev pub names_in : Inside → PortNames
names_in a = record { south = texts a.south.items; north = texts a.north.items }

abbrev pub ArePortNames : Inside → Type 0
ArePortNames a = ArePorts (texts a.south.items) (texts a.north.items)
