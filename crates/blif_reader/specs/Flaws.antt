-- what is wrong with a text that is to be BLIF
use Rattle.read_base.specs.declared.stop.Flaw as flaw
use Rattle.read_base.specs.declared.stop.Stop as stop
use Rattle.blif_reader.specs.declared.fault.BlifKind.{BlifKind}

-- what is wrong with a text, and how many bytes of it are left from there on
abbrev pub Flaw : Type 0
Flaw = flaw.Flaw BlifKind

-- why reading a text ended early
abbrev pub Stop : Type 0
Stop = stop.Stop BlifKind
