-- a checked design as contracts see it: the lists of its netlist, and its height
use Rattle.design_model.specs.Netlist.{Netlist, IsNetlist}
use Rattle.design_model.specs.declared.design.Design.TheInside.{Inside}

abbrev pub netlist_of : Inside → Netlist
netlist_of a = record { kinds = a.kinds; height = a.height; instances = a.instances; pins = a.pins; nets = a.nets }

pub record IsDesign (a : Inside) : Type 0 where
  pub netlist : IsNetlist (netlist_of a)
