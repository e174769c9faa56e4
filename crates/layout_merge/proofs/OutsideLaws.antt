use Rattle.std.proofs.Common.{◌≡◌, ◌∙◌, ◌≤◌, ◌-◌, ℕ, ◌+◌, List, [], ◌∷◌, ◌++◌, append_assoc, Bool, true, filter, drop, take, length, ap, arith, sym}
use Rattle.std.proofs.lemmas.List.{length-drop, take_all}
use Rattle.geom_core.specs.declared.layout.Cell.{Cell}
use Rattle.geom_core.specs.declared.layout.Shape.{Shape}
use Rattle.layout_merge.specs.MergedLayout.{outside}
use Rattle.layout_merge.proofs.PlacedLaws.{filter-kept}

-- what lies before a cell more
pub outside-on : (known : Cell → Bool) (c : Cell) (rest later : List Cell) (shapes found new all : List Shape) (end : ℕ) → rest ≡ c ∷ later → known c ≡ true
    → new ≡ found ++ take (c.first - end) (drop end shapes) → found ++ outside end (filter known rest) shapes ≡ all
    → new ++ outside (c.first + c.count) (filter known later) shapes ≡ all
outside-on known c rest later shapes found new all end is kept more was =
    ap (λ (l : List Shape). l ++ outside (c.first + c.count) (filter known later) shapes) more
    ∙ append_assoc found (take (c.first - end) (drop end shapes)) (outside (c.first + c.count) (filter known later) shapes)
    ∙ ap (λ (l : List Cell). found ++ outside end l shapes) (sym (ap (filter known) is ∙ filter-kept known c later kept)) ∙ was

-- and behind the last
pub outside-end : (shapes : List Shape) (end : ℕ) → take (length shapes - end) (drop end shapes) ≡ drop end shapes
outside-end shapes end =
    let long = length-drop end shapes in
    take_all (length shapes - end) (drop end shapes) (omega (arith, long))
