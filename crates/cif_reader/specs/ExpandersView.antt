-- how an expander keeps them
use Rattle.cif_reader.specs.declared.expander.Expander.TheInside.{Inside}
use Rattle.cif_reader.specs.Behind.{IsStanding, seen}
use Rattle.cif_reader.specs.Expansion.{Progress}

abbrev pub progress_in : Inside → Progress
progress_in e = seen e.standing

abbrev pub IsKept : Inside → Type 0
IsKept e = IsStanding e.standing
