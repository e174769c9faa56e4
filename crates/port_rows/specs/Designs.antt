-- the design that is drawn, and the one that is placed
use Rattle.std.specs.Prelude.{Option, Some, None}
use Rattle.design_model.specs.Netlist.{Netlist}
use Rattle.port_rows.specs.declared.designs.Designs.{Designs}
use Rattle.port_rows.specs.declared.ported.Ported.{Ported}

-- a design without ports
abbrev pub unported : Netlist → Ported
unported d = record { design = d; south = 0; north = 0 }

-- one design without ports, which is both placed and drawn
abbrev pub bare_designs : Netlist → Designs
bare_designs d = record { drawn = unported d; bare = None }

-- a design that is drawn with its ports, and placed without them
abbrev pub ported_designs : Netlist → Ported → Designs
ported_designs d ported = record { drawn = ported; bare = Some d }

abbrev pub bare_or : Option Netlist → Netlist → Netlist
bare_or None drawn = drawn
bare_or (Some d) drawn = d

-- the design that is placed
abbrev pub placed_in : Designs → Netlist
placed_in designs = bare_or designs.bare designs.drawn.design
