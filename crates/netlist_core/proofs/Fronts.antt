use Rattle.std.proofs.Common.{◌≡◌, List, [], ◌∷◌, ◌++◌, Option, None, Some, refl, ap, append_assoc}
use Rattle.netlist_core.specs.Cells.{position_onto}
use Rattle.design_model.specs.declared.design.Position.{Position}

-- the positions found so far, before those that are left, if these are found
abbrev pub with_front : List Position → Option (List Position) → Option (List Position)
with_front front None = None
with_front front (Some ps) = Some (front ++ ps)

pub front-none : (rest : Option (List Position)) → with_front [] rest ≡ rest
front-none None = refl
front-none (Some ps) = refl

pub front-more : (front : List Position) (p : Position) (rest : Option (List Position))
    → with_front (front ++ p ∷ []) rest ≡ with_front front (position_onto (Some p) rest)
front-more front p None = refl
front-more front p (Some ps) = ap (λ (l : List Position). Some l) (append_assoc front (p ∷ []) ps)

pub ruleset fronts = (front-none, front-more)
