-- shapes and outlines as members that keep their distance
use Rattle.std.specs.Prelude.{ℕ, ℤ, pos, ◌+◌, List, [], ◌∷◌, Option, Some, None, if◌then◌else◌}
use Rattle.std.specs.List.{cons_option}
use Rattle.std.specs.Option.{option_map}
use Rattle.std.specs.Str.{bytes_eq}
use Rattle.geom_core.specs.Extent.{Extent}
use Rattle.geom_core.specs.declared.layout.Shape.{Shape}
use Rattle.close_rects.specs.Planes.{in_plane}
use Rattle.close_rects.specs.declared.member.Member.{Member}
use Rattle.tech_rules.specs.Lengths.{length_in}
use Rattle.tech_rules.specs.Rules.{RuleValues}
use Rattle.rule_check.specs.Narrow.{is_on}
use Rattle.rule_check.specs.declared.wires.Layer.{Layer}
use Rattle.rule_check.specs.declared.wires.Layer.TheVariants.{Horizontal, Vertical, Cut}

-- the members that are made of a list, each by its number, where the first has this number; of some none is made
abbrev pub members_from : {A : Type 0} → (ℕ → A → Option Member) → ℕ → List A → List Member
members_from made n [] = []
members_from made n (x ∷ xs) = cons_option (made n x) (members_from made (n + 1) xs)

-- which of the layers that keep a space this is
abbrev pub layer_of : RuleValues → List ℕ → Option Layer
layer_of r name =
    if bytes_eq name r.horizontal.layer then Some Horizontal
    else (if bytes_eq name r.vertical.layer then Some Vertical else (if bytes_eq name r.cut.layer then Some Cut else None))

-- the plane in which the rectangles of a layer are compared
abbrev pub plane_of : Layer → ℕ
plane_of Horizontal = 0
plane_of Vertical = 1
plane_of Cut = 2

abbrev pub space_of : RuleValues → Layer → ℤ
space_of r Horizontal = length_in r r.horizontal.space
space_of r Vertical = length_in r r.vertical.space
space_of r Cut = length_in r r.cut.space

-- a shape of a class on a layer
abbrev pub member_on : RuleValues → Layer → ℕ → ℕ × Shape → Member
member_on r layer n a = record { number = n; class = a.0; rect = in_plane (plane_of layer) a.1.rect; reach = space_of r layer }

abbrev pub wire_member : RuleValues → ℕ → ℕ × Shape → Option Member
wire_member r n a = option_map (λ layer. member_on r layer n a) (layer_of r a.1.layer)

-- an outline, of a class of its own
abbrev pub outline_member : RuleValues → ℕ → Shape → Option Member
outline_member r n s = if is_on r.outline.layer s then Some (record { number = n; class = n; rect = s.rect; reach = pos 0 }) else None

-- a rectangle of the same heights in one place
abbrev pub flat : Extent → Extent
flat e = record { x0 = pos 0; y0 = e.y0; x1 = pos 1; y1 = e.y1 }

-- the heights of an outline, of a class for each height at which one stands
abbrev pub row_member : RuleValues → ℕ → ℕ × Shape → Option Member
row_member r n a =
    if is_on r.outline.layer a.1 then Some (record { number = n; class = a.0; rect = flat a.1.rect; reach = pos 0 }) else None
