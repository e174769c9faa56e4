-- marks of tracks by their ids
use Rattle.std.specs.Prelude.{◌==◌, ℕ, List, Bool, slice_index}

-- an id is marked in a round, by the rounds in which ids were last marked
abbrev pub is_marked : List ℕ → ℕ → ℕ → Bool
is_marked rounds round id = slice_index rounds id == round
