-- shapes that are too narrow, and cuts that are not enclosed
use Rattle.std.specs.Prelude.{ℕ, ℤ, ◌+ℤ◌, int_le, List, Bool, not, ◌&&◌, ◌||◌}
use Rattle.std.specs.List.{list_any}
use Rattle.std.specs.Ordering.{int_eq}
use Rattle.std.specs.Str.{bytes_eq}
use Rattle.geom_core.specs.Extent.{Extent}
use Rattle.geom_core.specs.Rectangles.{grown}
use Rattle.geom_core.specs.declared.layout.Shape.{Shape}
use Rattle.tech_rules.specs.Lengths.{length_in}
use Rattle.tech_rules.specs.Rules.{RuleValues}

abbrev pub is_on : List ℕ → Shape → Bool
is_on layer s = bytes_eq s.layer layer

-- whether both sides are at least d long
abbrev pub has_sides : ℤ → Extent → Bool
has_sides d e = int_le (e.x0 +ℤ d) e.x1 && int_le (e.y0 +ℤ d) e.y1

abbrev pub is_square : ℤ → Extent → Bool
is_square d e = int_eq (e.x0 +ℤ d) e.x1 && int_eq (e.y0 +ℤ d) e.y1

-- whether the second rectangle lies in the first
abbrev pub encloses : Extent → Extent → Bool
encloses outer inner = (int_le outer.x0 inner.x0 && int_le outer.y0 inner.y0) && (int_le inner.x1 outer.x1 && int_le inner.y1 outer.y1)

-- a wire with a side below its layer's width, or a cut that is no square of the cut's size
abbrev pub is_narrow : RuleValues → Shape → Bool
is_narrow r s =
    (is_on r.horizontal.layer s && not (has_sides (length_in r r.horizontal.width) s.rect))
    || (is_on r.vertical.layer s && not (has_sides (length_in r r.vertical.width) s.rect))
    || (is_on r.cut.layer s && not (is_square (length_in r r.cut.size) s.rect))

-- whether a cut, with what has to enclose it, lies in one shape of this layer
abbrev pub is_covered : RuleValues → List Shape → List ℕ → Shape → Bool
is_covered r shapes layer cut = list_any (λ s. is_on layer s && encloses s.rect (grown (length_in r r.cut.enclose) cut.rect)) shapes

-- a cut that does not lie so in a shape of each layer of wires
abbrev pub is_bare : RuleValues → List Shape → Shape → Bool
is_bare r shapes s = is_on r.cut.layer s && not (is_covered r shapes r.horizontal.layer s && is_covered r shapes r.vertical.layer s)
