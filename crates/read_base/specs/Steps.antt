-- one step after another
use Rattle.std.specs.Prelude.{Result, Ok, Err}

-- the next step gets what the first gave, and an error ends all
infixl 10 ◌>>=◌
abbrev pub ◌>>=◌ : {A B E : Type 0} → Result A E → (A → Result B E) → Result B E
Ok a >>= next = next a
Err e >>= next = Err e
