-- the answers of `load`
use Rattle.std.specs.Prelude.{Result, Ok, Err}
use Rattle.shelf_io.specs.declared.loading.LoadFault.{LoadFault}
use Rattle.shelf_io.specs.declared.loading.LoadFault.TheVariants.{ReadFault, TooLong, Memory}

-- the fact holds wherever the answer is not ReadFault
abbrev pub UnlessReadFault : {T : Type 0} → Result T LoadFault → Type 0 → Type 0
UnlessReadFault (Ok bytes) fact = fact
UnlessReadFault (Err ReadFault) fact = Unit {0}
UnlessReadFault (Err TooLong) fact = fact
UnlessReadFault (Err Memory) fact = fact
