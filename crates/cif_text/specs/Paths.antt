-- the forms of wires and polygons
use Rattle.std.specs.Prelude.{if◌then◌else◌, ℕ, zero, suc, pos, List, [], ◌∷◌, length, Bool, ◌||◌, Result, Ok, Err}
use Rattle.std.specs.List.{list_all}
use Rattle.std.specs.Ordering.{int_eq}
use Rattle.geom_core.specs.declared.corner.Corner.{Corner}
use Rattle.region_cut.specs.Steps.{Step, wire_steps, closed_steps}
use Rattle.cif_text.specs.declared.command.CifCommand.TheVariants as commands
use Rattle.cif_text.specs.declared.fault.CifKind.TheVariants as kinds
use Rattle.cif_text.specs.Bytes.{is_separator, skip, ends}
use Rattle.read_base.specs.Steps.{◌>>=◌}
use Rattle.cif_text.specs.declared.misfit.Misfit.{Misfit}
use Rattle.cif_text.specs.declared.misfit.Misfit.TheVariants.{Malformed}
use Rattle.cif_text.specs.Numbers.{number, positive, apart}
use Rattle.cif_text.specs.Forms.{Form}

-- a point: x and y, each behind separators
abbrev pub corner_of : List ℕ → Result (Corner × List ℕ) Misfit
corner_of bytes = do
  x ← apart is_separator number bytes
  y ← apart is_separator number x.1
  Ok (record { x = x.0; y = y.0 }, y.1)

-- any number of points, up to the end of the command; the first number is at least that of the bytes
unfoldable pub corners_of : ℕ → List ℕ → Result (List Corner) Misfit
corners_of zero bytes = if ends is_separator bytes then Ok [] else Err Malformed
corners_of (suc n) bytes =
    if ends is_separator bytes then Ok [] else do
      first ← corner_of bytes
      others ← corners_of n first.1
      Ok (first.0 ∷ others)

-- the product's own: a step of a path keeps x or y
abbrev pub is_along : Step → Bool
is_along s = int_eq s.from.x s.to.x || int_eq s.from.y s.to.y

abbrev pub are_along : List Step → Bool
are_along steps = list_all is_along steps

-- a wire has one point or more
abbrev pub wire_of : ℕ → List Corner → Form
wire_of width [] = Err Malformed
wire_of width (c ∷ cs) =
    Ok (if are_along (wire_steps (c ∷ cs)) then Ok (commands.Wire (pos width) (c ∷ cs)) else Err kinds.Turned)

-- CIF 2.0: `W`, a width and a path
unfoldable pub wire_form : List ℕ → Form
wire_form body = do
  width ← positive (skip is_separator body)
  path ← corners_of (length width.1) width.1
  wire_of width.0 path

-- a point that stands first: separators may stand before it
abbrev pub first_corner_of : List ℕ → Result (Corner × List ℕ) Misfit
first_corner_of bytes = do
  x ← number (skip is_separator bytes)
  y ← apart is_separator number x.1
  Ok (record { x = x.0; y = y.0 }, y.1)

-- a polygon has three points or more, and its last step leads back to its first point
abbrev pub polygon_of : List Corner → Form
polygon_of (a ∷ b ∷ c ∷ cs) =
    Ok (if are_along (closed_steps (a ∷ b ∷ c ∷ cs)) then Ok (commands.Polygon (a ∷ b ∷ c ∷ cs)) else Err kinds.Turned)
polygon_of _ = Err Malformed

-- CIF 2.0: `P` and a path
unfoldable pub polygon_form : List ℕ → Form
polygon_form body = do
  first ← first_corner_of body
  others ← corners_of (length first.1) first.1
  polygon_of (first.0 ∷ others)
