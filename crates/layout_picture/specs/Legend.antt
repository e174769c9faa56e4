-- the legend
use Rattle.std.specs.Prelude.{ℕ, List, [], ◌∷◌, codes, map, Option, Some, None, if◌then◌else◌}
use Rattle.std.specs.List.{concat}
use Rattle.std.specs.Str.{bytes_eq}
use Rattle.layout_picture.specs.declared.view.Roles.{Roles}

-- what a layer is for, behind a blank
abbrev pub role_text : Roles → List ℕ → List ℕ
role_text r layer =
    if bytes_eq layer r.horizontal then codes " horizontal"
    else (if bytes_eq layer r.vertical then codes " vertical"
    else (if bytes_eq layer r.cut then codes " via"
    else (if bytes_eq layer r.outline then codes " outline" else [])))

-- where that is known
abbrev pub word_of : Option Roles → List ℕ → List ℕ
word_of None layer = []
word_of (Some r) layer = role_text r layer

-- the entry of a layer: a square in its class, its name, and what it is for
unfoldable pub entry_text : Option Roles → List ℕ → List ℕ
entry_text roles layer = concat (codes "  <tspan class=\"layer-" ∷ layer ∷ codes "\" x=\"1010\" dy=\"20\">&#9632;</tspan> "
    ∷ layer ∷ word_of roles layer ∷ codes "\n" ∷ [])

-- an entry for each layer
abbrev pub entries_text : Option Roles → List (List ℕ) → List ℕ
entries_text roles layers = concat (map (entry_text roles) layers)
