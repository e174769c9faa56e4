-- a set of borrowed names, as its texts
use Rattle.std.specs.Prelude.{ℕ, List, map}
use Rattle.std.specs.Borrow.{Bor}

-- what borrowed names say
abbrev pub texts : List (Bor (List ℕ)) → List (List ℕ)
texts keys = map (λ (k : Bor (List ℕ)). k.now) keys
