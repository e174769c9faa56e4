use Rattle.std.specs.Prelude.{◌≡◌, ℕ, Result, Ok, Err}
use Rattle.cif_text.specs.Meaning.{Unmeant, undefined, twice, inexact, no_layer, no_symbol_name}
use Rattle.cif_reader.specs.declared.fault.ExpandKind.{ExpandKind}
use Rattle.cif_reader.specs.declared.fault.ExpandKind.TheVariants as kinds

-- what commands give is what they mean: the same layout, or the same fault at the same command, where no limit of the reader is passed
abbrev pub Agrees : {A B : Type 0} → (A → B) → Result A (ExpandKind × ℕ) → Result B (Unmeant × ℕ) → Type 0
Agrees view (Ok x) meant = meant ≡ Ok (view x)
Agrees view (Err (kinds.Undefined n, i)) meant = meant ≡ Err (undefined n, i)
Agrees view (Err (kinds.Twice n, i)) meant = meant ≡ Err (twice n, i)
Agrees view (Err (kinds.Inexact, i)) meant = meant ≡ Err (inexact, i)
Agrees view (Err (kinds.NoLayer, i)) meant = meant ≡ Err (no_layer, i)
Agrees view (Err (kinds.NoSymbolName, i)) meant = meant ≡ Err (no_symbol_name, i)
Agrees view (Err (kinds.TooFar v, i)) meant = Unit {0}
Agrees view (Err (kinds.LongPath, i)) meant = Unit {0}
Agrees view (Err (kinds.TooMany, i)) meant = Unit {0}
Agrees view (Err (kinds.TooDeep, i)) meant = Unit {0}
