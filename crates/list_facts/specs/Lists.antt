-- lists by their numbers
use Rattle.std.specs.Prelude.{List, [], ◌∷◌, ◌++◌, Bool, true, false, Option, None, Some}

-- a list with an item behind it, if this is so
abbrev pub with_item : {A : Type 0} → Bool → A → List A → List A
with_item true item items = items ++ item ∷ []
with_item false item items = items

-- the items that a table has at a place
abbrev pub list_there : {A : Type 0} → Option (List A) → List A
list_there None = []
list_there (Some items) = items
