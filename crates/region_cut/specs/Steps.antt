-- the steps of a path
use Rattle.std.specs.Prelude.{List, [], ◌∷◌, ◌++◌}
use Rattle.geom_core.specs.declared.corner.Corner.{Corner}

-- two successive points of a path
pub record Step : Type 0 where
  pub from : Corner
  pub to : Corner

-- the steps from a point to others, one after the other
abbrev pub steps_from : Corner → List Corner → List Step
steps_from here [] = []
steps_from here (next ∷ rest) = record { from = here; to = next } ∷ steps_from next rest

-- the steps of a wire: a wire of a single point has one step, which stays there
abbrev pub wire_steps : List Corner → List Step
wire_steps [] = []
wire_steps (only ∷ []) = record { from = only; to = only } ∷ []
wire_steps (first ∷ (next ∷ rest)) = steps_from first (next ∷ rest)

-- the steps of a closed path, the last of which leads back to its first point
abbrev pub closed_steps : List Corner → List Step
closed_steps [] = []
closed_steps (first ∷ rest) = steps_from first (rest ++ first ∷ [])
