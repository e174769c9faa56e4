-- what a command gives the level in which it stands
use Rattle.std.specs.Prelude.{if◌then◌else◌, ℕ, suc, ℤ, nat_lt, Bool, true, false, List, ◌∷◌, length, map, Option, Some, None, Result, Ok, Err}
use Rattle.geom_core.specs.declared.layout.Shape.{Shape}
use Rattle.geom_core.specs.declared.layout.Cell.{Cell}
use Rattle.geom_core.specs.declared.corner.Corner.{Corner}
use Rattle.geom_core.specs.Extent.{Extent}
use Rattle.region_cut.specs.Maximal.{maximal}
use Rattle.geom_core.specs.Turning.{Turning}
use Rattle.cif_text.specs.declared.command.CifCommand.{CifCommand}
use Rattle.cif_text.specs.declared.command.CifCommand.TheVariants as commands
use Rattle.read_base.specs.Steps.{◌>>=◌}
use Rattle.cif_text.specs.Symbols.{Symbol, Level, Definition, Main, moved_shapes}
use Rattle.cif_text.specs.Meaning.{drawn_by, definition_with, cells_by, main_with}
use Rattle.cif_reader.specs.declared.fault.ExpandKind.{ExpandKind}
use Rattle.cif_reader.specs.declared.fault.ExpandKind.TheVariants as kinds
use Rattle.cif_reader.specs.Limits.{deepest, either_limit, first_far, sides_of, sides_of_all, coordinates_of_path, coordinates_of, far_or_many, more_than_most, limit_passed}
use Rattle.cif_reader.specs.Expansion.{unless_refused, within, depth_by}

-- what is neither the start nor the end of a definition
abbrev pub is_drawing : CifCommand → Bool
is_drawing (commands.Start n a b) = false
is_drawing commands.Finish = false
is_drawing _ = true

abbrev pub layered : Option (List ℕ) → Extent → Result Shape ExpandKind
layered None rect = Err kinds.NoLayer
layered (Some layer) rect = Ok (record { layer = layer; rect = rect })

-- the shape that a box gives its level, which has a layer or none and so many shapes before it, or why it is refused
unfoldable pub boxed : Option (List ℕ) → ℕ → Option Extent → Result Shape ExpandKind
boxed layer before None = Err kinds.Inexact
boxed layer before (Some rect) = unless_refused (far_or_many (first_far (sides_of rect)) (more_than_most before 1)) (layered layer rect)

-- the shapes of rectangles on the present layer of a level that has so many shapes before them, or why they are refused
abbrev pub layered_all : Option (List ℕ) → List Extent → Result (List Shape) ExpandKind
layered_all None rects = Err kinds.NoLayer
layered_all (Some layer) rects = Ok (map (λ rect. record { layer = layer; rect = rect }) rects)

abbrev pub layered_rects : Option (List ℕ) → ℕ → List Extent → Result (List Shape) ExpandKind
layered_rects layer before rects = unless_refused (more_than_most before (length rects)) (layered_all layer rects)

-- the same of rectangles that may be too far
unfoldable pub wired : Option (List ℕ) → ℕ → Option (List Extent) → Result (List Shape) ExpandKind
wired layer before None = Err kinds.Inexact
wired layer before (Some rects) =
    unless_refused (far_or_many (first_far (sides_of_all rects)) (more_than_most before (length rects))) (layered_all layer rects)

-- the shapes of the maximal blocks of a path, at a scale, where the path may have too many points
unfoldable pub cut_in : Option (List ℕ) → ℕ → Option ExpandKind → Option (List Corner) → Result (List Shape) ExpandKind
cut_in layer before long None = Err kinds.Inexact
cut_in layer before long (Some path) =
    unless_refused (far_or_many (first_far (coordinates_of_path path)) (either_limit long (more_than_most before (length (maximal path)))))
    (layered_all layer (maximal path))

-- the first number of a call that is too far: its offset, and then the coordinates of its shapes
abbrev pub far_call : Turning → List Shape → Option ℤ
far_call turn shapes = first_far (turn.dx ∷ turn.dy ∷ coordinates_of (moved_shapes turn shapes))

abbrev pub call_with : ℕ → Symbol → Turning → Result (Symbol × Turning) ExpandKind
call_with before symbol turn =
    unless_refused (far_or_many (far_call turn symbol.shapes) (more_than_most before (length symbol.shapes))) (Ok (symbol, turn))

-- the symbol that a call gives its level, which has so many shapes before it, and its turn, or why it is refused
unfoldable pub call_of : ℕ → ℕ → Option Symbol → Option Turning → Result (Symbol × Turning) ExpandKind
call_of n before None turn = Err (kinds.Undefined n)
call_of n before (Some symbol) None = Err kinds.Inexact
call_of n before (Some symbol) (Some turn) = call_with before symbol turn

-- the depth that a call of a symbol of this depth gives its level
abbrev pub depth_above : ℕ → Result ℕ ExpandKind
depth_above depth = if nat_lt deepest (suc depth) then Err kinds.TooDeep else Ok (suc depth)

-- the shapes that a command gives a level, or why it is refused
unfoldable pub given : List Symbol → Level → CifCommand → Result (List Shape) ExpandKind
given symbols l c = within (limit_passed symbols l c) (drawn_by symbols l c)

abbrev pub named : Option (List Cell) → Result (List Cell) ExpandKind
named (Some cells) = Ok cells
named None = Err kinds.NoSymbolName

-- a command inside a definition: what the definition is behind it, and the depth that the command gives it
abbrev pub definition_given : List Symbol → List ℕ → Definition → CifCommand → Result (Definition × ℕ) ExpandKind
definition_given symbols depths d c = do
  shapes ← given symbols d.level c
  depth ← depth_by symbols depths c
  Ok (definition_with d c shapes, depth)

-- a command of the main level: what the level is behind it, and the depth that the command gives it
abbrev pub main_given : List Symbol → List ℕ → Main → CifCommand → Result (Main × ℕ) ExpandKind
main_given symbols depths m c = do
  shapes ← given symbols m.level c
  cells ← named (cells_by symbols m.level m.waiting c)
  depth ← depth_by symbols depths c
  Ok (main_with m c shapes cells, depth)
