-- what is wrong with a text that is to be CIF
use Rattle.read_base.specs.declared.stop.Flaw as flaw
use Rattle.read_base.specs.declared.stop.Stop as stop
use Rattle.cif_text.specs.declared.fault.CifKind.{CifKind}

-- what is wrong, and how many bytes there are from its place to the end of the text
abbrev pub Flaw : Type 0
Flaw = flaw.Flaw CifKind

-- why reading a text ended early
abbrev pub Stop : Type 0
Stop = stop.Stop CifKind
