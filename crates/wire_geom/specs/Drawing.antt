-- what a wiring is drawn as
use Rattle.std.specs.Prelude.{ℕ, List, [], ◌∷◌, map}
use Rattle.std.specs.List.{flat_map}
use Rattle.channel_model.specs.declared.wiring.Segment.{Segment}
use Rattle.channel_model.specs.declared.wiring.Segment.TheVariants.{Across, Along}
use Rattle.channel_model.specs.declared.wiring.Via.{Via}
use Rattle.channel_model.specs.declared.wiring.Wiring.{Wiring}
use Rattle.channel_model.specs.Elements.{Element, segment, via, elements}
use Rattle.geom_core.specs.Extent.{Extent}
use Rattle.tech_rules.specs.Rules.{RuleValues, pad}
use Rattle.wire_geom.specs.Boxes.{Box, across_box, along_box, square_box, upright_box}
use Rattle.wire_geom.specs.Grid.{scaled}
use Rattle.wire_geom.specs.declared.drawn.Drawn.{Drawn}

-- the masks on which wirings are drawn: one for each layer of wires, and that of the cuts
pub data Mask : Type 0 where
  on_horizontal : Mask
  on_vertical : Mask
  on_cut : Mask

abbrev pub name_of : RuleValues → Mask → List ℕ
name_of r on_horizontal = r.horizontal.layer
name_of r on_vertical = r.vertical.layer
name_of r on_cut = r.cut.layer

-- a rectangle of a net, in half units
pub record Piece : Type 0 where
  pub mask : Mask
  pub box : Box
  pub net : ℕ

-- an Across is a vertical wire, and an Along a horizontal one
abbrev pub segment_piece : RuleValues → ℕ → ℕ → Segment → Piece
segment_piece r base tracks (Across net column low high) =
    record { mask = on_vertical; box = across_box r base tracks column low high; net = net }
segment_piece r base tracks (Along net track from to) = record { mask = on_horizontal; box = along_box r base track from to; net = net }

-- a via is a pad on each layer of wires, the horizontal one first, and a cut
abbrev pub via_piece : RuleValues → ℕ → Mask → ℕ → Via → Piece
via_piece r base mask size v = record { mask = mask; box = square_box r base size v.column v.track; net = v.net }

abbrev pub via_pieces : RuleValues → ℕ → Via → List Piece
via_pieces r base v =
    via_piece r base on_horizontal (pad r) v ∷ (via_piece r base on_vertical (pad r) v ∷ (via_piece r base on_cut r.cut.size v ∷ []))

abbrev pub pieces_of : RuleValues → ℕ → ℕ → Element → List Piece
pieces_of r base tracks (segment s) = segment_piece r base tracks s ∷ []
pieces_of r base tracks (via v) = via_pieces r base v

-- a box in half centimicrons
abbrev pub extent_of : RuleValues → Box → Extent
extent_of r box = record { x0 = scaled r box.x0; y0 = scaled r box.y0; x1 = scaled r box.x1; y1 = scaled r box.y1 }

abbrev pub drawn_of : RuleValues → Piece → Drawn
drawn_of r piece = record { shape = record { layer = name_of r piece.mask; rect = extent_of r piece.box }; net = piece.net }

-- the rectangles of an element
abbrev pub drawn_by : RuleValues → ℕ → ℕ → Element → List Drawn
drawn_by r base tracks e = map (drawn_of r) (pieces_of r base tracks e)

-- the rectangles of a wiring: those of its segments in order, then those of its vias in order
abbrev pub drawing : RuleValues → ℕ → Wiring → List Drawn
drawing r base wiring = flat_map (drawn_by r base wiring.tracks) (elements wiring)

-- a vertical wire of a net in the middle of a column, from one height in units to another
abbrev pub upright : RuleValues → ℕ → ℕ → ℕ → ℕ → Drawn
upright r low high column net = drawn_of r (record { mask = on_vertical; box = upright_box r low high column; net = net })
