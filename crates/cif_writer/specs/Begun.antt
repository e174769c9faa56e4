-- a text that is begun
use Rattle.std.specs.Prelude.{ℕ, List, Option}

-- a text that is begun: what is not put yet, and the layer that was written last at this level
pub record Begun : Type 0 where
  pub buffered : List ℕ
  pub last : Option (List ℕ)
