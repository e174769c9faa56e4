-- names in the order of their first mention
use Rattle.std.specs.Prelude.{ℕ, List, [], ◌∷◌, ◌++◌, fold, if◌then◌else◌}
use Rattle.std.specs.List.{list_any, position_or_len}
use Rattle.std.specs.Str.{bytes_eq}

-- the names mentioned so far, and this one at their end where it is new
abbrev pub mention : List (List ℕ) → List ℕ → List (List ℕ)
mention seen name = if list_any (bytes_eq name) seen then seen else seen ++ name ∷ []

-- the different names of a list, in the order of their first mention
abbrev pub mentions : List (List ℕ) → List (List ℕ)
mentions names = fold mention [] names

-- the first place at which a name stands, or the number of names
abbrev pub place_among : List (List ℕ) → List ℕ → ℕ
place_among names name = position_or_len (bytes_eq name) names
