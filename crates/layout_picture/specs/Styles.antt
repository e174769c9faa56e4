-- the style sheet: a colour for each layer
use Rattle.std.specs.Prelude.{ℕ, ◌+◌, ◌==◌, List, [], ◌∷◌, ◌++◌, cond, codes, map, nat_lt, if◌then◌else◌}
use Rattle.std.specs.List.{concat}
use Rattle.geom_core.specs.declared.layout.Shape.{Shape}
use Rattle.list_facts.specs.Names.{mentions}

-- the different layers of shapes, in the order of their first mention
abbrev pub layers_of : List Shape → List (List ℕ)
layers_of shapes = mentions (map (λ (s : Shape). s.layer) shapes)

-- eight colours, from 0 to 7
unfoldable pub colour : ℕ → List ℕ
colour n =
    cond (n == 0) (codes "#e69f00") (cond (n == 1) (codes "#56b4e9") (cond (n == 2) (codes "#009e73") (cond (n == 3) (codes "#f0e442")
    (cond (n == 4) (codes "#0072b2") (cond (n == 5) (codes "#d55e00") (cond (n == 6) (codes "#cc79a7") (codes "#000000")))))))

-- the next, which is the first behind the last
abbrev pub colour_after : ℕ → ℕ
colour_after n = if nat_lt n 7 then n + 1 else 0

-- the rule of a layer
unfoldable pub style_text : ℕ → List ℕ → List ℕ
style_text n layer = concat (codes "  .layer-" ∷ layer ∷ codes " { fill: " ∷ colour n ∷ codes "; }\n" ∷ [])

-- a rule for each layer, with the colours from number n on
unfoldable pub styles_text : ℕ → List (List ℕ) → List ℕ
styles_text n [] = []
styles_text n (layer ∷ layers) = style_text n layer ++ styles_text (colour_after n) layers
