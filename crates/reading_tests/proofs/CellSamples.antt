use Rattle.std.proofs.Common.{◌≡◌, ℕ, pos, negsuc, List, [], ◌∷◌, true, false, Some, None, Ok, Err, refl}
use Rattle.std.specs.Prelude.{codes}
use Rattle.geom_core.specs.declared.layout.Shape.{Shape}
use Rattle.samples.specs.Sample.{sample}
use Rattle.yal_reader.specs.declared.file.Flow.TheVariants as flows
use Rattle.yal_reader.specs.declared.file.Kind.TheVariants as kinds
use Rattle.yal_reader.specs.declared.file.Module.{Module}
use Rattle.netlist_core.specs.Cells.{column_of, edge_of, grid_of, grid_positions, kind_fault, kind_of}
use Rattle.design_model.specs.Drawing.{drawing_of, outline_shape, position_shape}
use Rattle.netlist_core.specs.Outline.{are_pairs, between, has_turns, outline_of}
use Rattle.design_model.specs.declared.design.CellKind.{CellKind}
use Rattle.netlist_core.specs.declared.fault.DesignFault.TheVariants as faults

-- the same outline, round either way and from any corner on
around : outline_of (pos 0 ∷ pos 0 ∷ pos 8 ∷ pos 0 ∷ pos 8 ∷ pos 40 ∷ pos 0 ∷ pos 40 ∷ []) ≡ Some (record { left = pos 0; low = pos 0; width = 8; height = 40 })
unfolding are_pairs has_turns between
around = refl

back : outline_of (pos 0 ∷ pos 0 ∷ pos 0 ∷ pos 40 ∷ pos 8 ∷ pos 40 ∷ pos 8 ∷ pos 0 ∷ []) ≡ Some (record { left = pos 0; low = pos 0; width = 8; height = 40 })
unfolding are_pairs has_turns between
back = refl

from-upper-right : outline_of (pos 5 ∷ pos 30 ∷ negsuc 2 ∷ pos 30 ∷ negsuc 2 ∷ negsuc 9 ∷ pos 5 ∷ negsuc 9 ∷ []) ≡ Some (record { left = negsuc 2; low = negsuc 9; width = 8; height = 40 })
unfolding are_pairs has_turns between
from-upper-right = refl

-- a bow, a line and three corners have none
bow : outline_of (pos 0 ∷ pos 0 ∷ pos 8 ∷ pos 40 ∷ pos 8 ∷ pos 0 ∷ pos 0 ∷ pos 40 ∷ []) ≡ None
unfolding are_pairs has_turns between
bow = refl

line : outline_of (pos 0 ∷ pos 0 ∷ pos 8 ∷ pos 0 ∷ pos 8 ∷ pos 0 ∷ pos 0 ∷ pos 0 ∷ []) ≡ None
unfolding are_pairs has_turns between
line = refl

three : outline_of (pos 0 ∷ pos 0 ∷ pos 8 ∷ pos 0 ∷ pos 8 ∷ pos 40 ∷ []) ≡ None
three = refl

-- columns of 8 units, two of them, from -8 on
first-column : column_of 8 2 (negsuc 7) (negsuc 3) ≡ Some 0
first-column = refl

second-column : column_of 8 2 (negsuc 7) (pos 4) ≡ Some 1
second-column = refl

past-columns : column_of 8 2 (negsuc 7) (pos 12) ≡ None
past-columns = refl

before-columns : column_of 8 2 (negsuc 7) (negsuc 11) ≡ None
before-columns = refl

beside-middle : column_of 8 2 (negsuc 7) (pos 5) ≡ None
beside-middle = refl

upper-edge : edge_of 40 (negsuc 7) (pos 32) ≡ Some true
upper-edge = refl

lower-edge : edge_of 40 (negsuc 7) (negsuc 7) ≡ Some false
lower-edge = refl

inside : edge_of 40 (negsuc 7) (pos 0) ≡ None
inside = refl

-- a buffer of one column of 8 units: its only pin at the top, its power terminals without any
buffer : ℕ → ℕ → ℕ → List ℕ → Module
buffer height x y layer = record {
  name = codes "BUF";
  kind = kinds.Standard;
  corners = pos 0 ∷ pos 0 ∷ pos 8 ∷ pos 0 ∷ pos 8 ∷ pos height ∷ pos 0 ∷ pos height ∷ [];
  lines = record { name = codes "A"; flow = flows.I; spot = Some (record { x = pos x; y = pos y; layer = layer }) }
      ∷ record { name = codes "VDD"; flow = flows.PWR; spot = None } ∷ record { name = codes "VDD"; flow = flows.I; spot = Some (record { x = pos 1; y = pos 1; layer = layer }) } ∷ [];
  calls = [];
}

buffer-kind : ℕ → CellKind
buffer-kind height = record {
  name = codes "BUF";
  columns = 1;
  height = height;
  terminals = record { name = codes "A"; power = false } ∷ record { name = codes "VDD"; power = true } ∷ [];
  positions = record { terminal = 0; top = true; column = 0 } ∷ [];
}

good : kind_of sample (2, buffer 40 4 40 (codes "poly")) ≡ Ok (buffer-kind 40)
unfolding are_pairs has_turns between grid_positions kind_fault grid_of kind_of buffer buffer-kind
good = refl

off-grid : kind_of sample (2, buffer 40 4 20 (codes "POLY")) ≡ Err (faults.OffGrid 2)
unfolding are_pairs has_turns between grid_positions kind_fault grid_of kind_of buffer
off-grid = refl

-- with another height it has its pin there
higher : kind_of sample (2, buffer 48 4 48 (codes "POLY")) ≡ Ok (buffer-kind 48)
unfolding are_pairs has_turns between grid_positions kind_fault grid_of kind_of buffer buffer-kind
higher = refl

below-top : kind_of sample (2, buffer 48 4 40 (codes "POLY")) ≡ Err (faults.OffGrid 2)
unfolding are_pairs has_turns between grid_positions kind_fault grid_of kind_of buffer
below-top = refl

-- two pins of 4 and a space of 3
lowest : kind_of sample (2, buffer 11 4 11 (codes "POLY")) ≡ Ok (buffer-kind 11)
unfolding are_pairs has_turns between grid_positions kind_fault grid_of kind_of buffer buffer-kind
lowest = refl

too-low : kind_of sample (2, buffer 10 4 10 (codes "POLY")) ≡ Err (faults.TooLow 2)
unfolding are_pairs has_turns between grid_positions kind_fault grid_of kind_of buffer
too-low = refl

other-layer : kind_of sample (2, buffer 40 4 40 (codes "POLYS")) ≡ Err (faults.WrongLayer 2)
unfolding are_pairs has_turns between grid_positions kind_fault grid_of kind_of buffer
other-layer = refl

-- a rectangle from 0 on, as it is drawn
box : List ℕ → ℕ → ℕ → ℕ → ℕ → Shape
box layer x0 y0 x1 y1 = record { layer = layer; rect = record { x0 = pos x0; y0 = pos y0; x1 = pos x1; y1 = pos y1 } }

-- the buffer's outline and its pin at the top
buffer-drawn : drawing_of sample (buffer-kind 40) ≡ box (codes "XP") 0 0 1600 8000 ∷ box (codes "NP") 500 7200 1100 8000 ∷ []
unfolding outline_shape position_shape buffer-kind box
buffer-drawn = refl

higher-drawn : drawing_of sample (buffer-kind 48) ≡ box (codes "XP") 0 0 1600 9600 ∷ box (codes "NP") 500 8800 1100 9600 ∷ []
unfolding outline_shape position_shape buffer-kind box
higher-drawn = refl

-- an inverter's pin at the bottom
inverter-kind : CellKind
inverter-kind = record {
  name = codes "INV";
  columns = 1;
  height = 40;
  terminals = record { name = codes "A"; power = false } ∷ [];
  positions = record { terminal = 0; top = false; column = 0 } ∷ [];
}

inverter-drawn : drawing_of sample inverter-kind ≡ box (codes "XP") 0 0 1600 8000 ∷ box (codes "NP") 500 0 1100 800 ∷ []
unfolding outline_shape position_shape inverter-kind box
inverter-drawn = refl
