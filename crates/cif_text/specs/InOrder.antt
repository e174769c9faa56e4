-- a step for each member of a list, one after another
use Rattle.std.specs.Prelude.{List, [], ◌∷◌, Result, Ok}
use Rattle.read_base.specs.Steps.{◌>>=◌}

-- a step for each member of a list, each from what stands behind the step before
abbrev pub in_order : {S C E : Type 0} → (S → C → Result S E) → S → List C → Result S E
in_order step s [] = Ok s
in_order step s (c ∷ cs) = step s c >>= λ t. in_order step t cs
