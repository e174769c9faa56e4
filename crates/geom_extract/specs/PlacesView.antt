-- a design with the places of the shapes of its pins, as they are kept
use Rattle.geom_extract.specs.CellTies.{ArePlaces, Placing}
use Rattle.geom_extract.specs.declared.places.Places.TheInside.{Inside}

abbrev pub placing_in : Inside → Placing
placing_in a = record { design = a.design.now; firsts = a.firsts.items; starts = a.starts.items }

abbrev pub StandThere : Inside → Type 0
StandThere a = ArePlaces (placing_in a)
