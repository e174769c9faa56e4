-- a web with the classes of its shapes as contracts see them, between two walks
use Rattle.geom_extract.specs.Walks.{Classed, IsSettled}
use Rattle.geom_extract.specs.declared.walked.Classes.TheInside.{Inside}

abbrev pub classed_in : Inside → Classed
classed_in a = record { web = a.web.now; classes = a.list.items }

abbrev pub AreSettled : Inside → Type 0
AreSettled a = IsSettled a.web.now a.list.items a.set
