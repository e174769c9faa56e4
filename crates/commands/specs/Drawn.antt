-- the picture of a layout
use Rattle.std.specs.Prelude.{◌≡◌, ℕ, List, length, nat_lt, if◌then◌else◌, Option, option_map, Result, Ok, Err}
use Rattle.cif_text.specs.ReadsAs.{ReadsAs}
use Rattle.command_ends.specs.declared.refusal.Limited.TheVariants as limits
use Rattle.command_ends.specs.declared.refusal.Refusal.{Refusal}
use Rattle.command_ends.specs.declared.refusal.Refusal.TheVariants.{Limit}
use Rattle.geom_core.specs.Extent.{Extent}
use Rattle.geom_core.specs.declared.layout.Layout.{Layout}
use Rattle.layout_picture.specs.Frame.{frame_of, shown_shapes}
use Rattle.layout_picture.specs.Pictures.{picture_text}
use Rattle.layout_picture.specs.declared.picture.TheConstants.{MOST_SHOWN}
use Rattle.layout_picture.specs.declared.view.Roles.{Roles}
use Rattle.layout_picture.specs.declared.view.View.{View}
use Rattle.tech_rules.specs.Rules.{RuleValues}

-- the layers of rules by what they are for
abbrev pub roles_of : RuleValues → Roles
roles_of rules = record { horizontal = rules.horizontal.layer; vertical = rules.vertical.layer; cut = rules.cut.layer; outline = rules.outline.layer }

-- what a picture shows: a part of a layout, or all of it, with the roles of its layers under rules, if there are some
abbrev pub view_of : Option Extent → Option RuleValues → View
view_of part rules = record { part = part; roles = option_map roles_of rules }

-- how many shapes of a layout it shows
abbrev pub shown_count : Layout → View → ℕ
shown_count layout view = length (shown_shapes (frame_of layout view) layout.shapes)

-- the text of a picture, which shows at most 200,000 shapes
unfoldable pub drawn_text : Layout → View → Result (List ℕ) Refusal
drawn_text layout view = if nat_lt MOST_SHOWN (shown_count layout view) then Err (Limit limits.Picture (shown_count layout view)) else Ok (picture_text layout view)

-- a text is the picture of this part of the layout as which another text reads, with the roles of its layers, or without
pub record IsPictureOf (part : Option Extent) (layout_text text : List ℕ) : Type 0 where
  pub layout : Layout
  pub reads : ReadsAs layout_text layout
  pub roles : Option Roles
  pub is : text ≡ picture_text layout (record { part = part; roles = roles })
