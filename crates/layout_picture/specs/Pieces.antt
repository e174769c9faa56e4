-- pieces of text
use Rattle.std.specs.Prelude.{ℕ, List, ◌-ℤ◌}
use Rattle.marker_text.specs.Microns.{microns, size_text}
use Rattle.layout_picture.specs.Entities.{entities}
use Rattle.layout_picture.specs.declared.pieces.Piece.{Piece}
use Rattle.layout_picture.specs.declared.pieces.Piece.TheVariants.{Name, Place, Size, Text, Way}

-- the text of a piece: lengths are written in microns
abbrev pub piece_text : Piece → List ℕ
piece_text (Text bytes) = bytes.now
piece_text (Name bytes) = entities bytes.now
piece_text (Place at) = microns at
piece_text (Size size) = size_text size
piece_text (Way from to) = microns (to -ℤ from)
