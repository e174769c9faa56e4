use Rattle.std.proofs.Common.{◌≡◌, ℕ, List, [], ◌∷◌, Bool, true, false, refl}
use Rattle.std.specs.Prelude.{codes, pos}
use Rattle.channel_model.specs.declared.wiring.Wiring.{Wiring}
use Rattle.feed_cells.specs.Fed.{Fed}
use Rattle.feed_cells.specs.declared.fed.Item.{Item}
use Rattle.feed_cells.specs.declared.fed.Item.TheVariants.{Cell, Feed}
use Rattle.design_model.specs.Netlist.{Netlist}
use Rattle.design_model.specs.declared.design.CellKind.{CellKind}
use Rattle.samples.specs.Sample.{sample}
use Rattle.wire_geom.specs.declared.drawn.Drawn.{Drawn}
use Rattle.channel_stack.specs.Stack.{stack_of}
use Rattle.channel_stack.specs.declared.placed.PlacedItem.{PlacedItem}

-- a buffer of two columns
abbrev buffer : CellKind
buffer = record {
  name = codes "BUF";
  columns = 2;
  height = 40;
  terminals = record { name = codes "a"; power = false } ∷ (record { name = codes "y"; power = false } ∷ []);
  positions = record { terminal = 0; top = true; column = 0 } ∷ (record { terminal = 1; top = true; column = 1 } ∷ []);
}

-- two buffers; net 2 leads from the first to the second
abbrev buffers : Netlist
buffers = record {
  kinds = buffer ∷ [];
  height = 40;
  instances = record { name = codes "u"; kind = 0 } ∷ (record { name = codes "v"; kind = 0 } ∷ []);
  pins = record { instance = 0; terminal = 0; net = 1 } ∷ (record { instance = 0; terminal = 1; net = 2 }
      ∷ (record { instance = 1; terminal = 0; net = 2 } ∷ (record { instance = 1; terminal = 1; net = 3 } ∷ [])));
  nets = codes "n" ∷ (codes "nn" ∷ (codes "z" ∷ []));
}

-- a row of the first buffer, a feed, and the second buffer mirrored
abbrev cell : ℕ → Bool → Item
cell instance mirror = Cell (record { instance = instance; mirror = mirror })

abbrev fed : Fed
fed = record { rows = (cell 0 false ∷ (Feed 2 ∷ (cell 1 true ∷ []))) ∷ []; heights = 40 ∷ []; width = 5; nets = 0 ∷ (1 ∷ []) }

-- a channel without tracks below the row, and one of two tracks and six columns with one via above it
abbrev lower : Wiring
lower = record { tracks = 0; columns = 5; segments = []; vias = [] }

abbrev upper : Wiring
upper = record { tracks = 2; columns = 6; segments = []; vias = record { net = 2; column = 1; track = 1 } ∷ [] }

abbrev placed : Item → ℕ → Bool → PlacedItem
placed item dx mirror = record { item = item; place = record { dx = pos dx; dy = pos 1600; mirror = mirror } }

abbrev square : List ℕ → ℕ → ℕ → ℕ → ℕ → Drawn
square layer x0 y0 x1 y1 =
    record { shape = record { layer = layer; rect = record { x0 = pos x0; y0 = pos y0; x1 = pos x1; y1 = pos y1 } }; net = 2 }

-- the lower channel is 8 units high, the row 40, and the upper channel 24; the mirrored buffer is placed by its right edge, behind column 4
worked-stack : stack_of sample buffers fed (lower ∷ (upper ∷ [])) ≡ record {
  channel_base = 0 ∷ (48 ∷ []);
  row_base = 8 ∷ [];
  row_height = 40 ∷ [];
  cells = (placed (cell 0 false) 0 false ∷ (placed (Feed 2) 3200 false ∷ (placed (cell 1 true) 8000 true ∷ []))) ∷ [];
  risers = [] ∷ [];
  shapes = [] ∷ ((square (codes "NM") 2000 10800 2800 11600 ∷ (square (codes "NP") 2000 10800 2800 11600 ∷ (square (codes "NC") 2200 11000 2600 11400 ∷ []))) ∷ []);
  width = 4800;
  height = 7200;
}
unfolding stack_of
worked-stack = refl
