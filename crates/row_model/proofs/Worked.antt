use Rattle.std.proofs.Common.{◌≡◌, ℕ, [], ◌∷◌, true, false, refl}
use Rattle.design_model.specs.Netlist.{Netlist}
use Rattle.design_model.specs.declared.design.CellKind.{CellKind}
use Rattle.design_model.specs.declared.design.Inst.{Inst}
use Rattle.design_model.specs.declared.design.Pin.{Pin}
use Rattle.tech_rules.specs.declared.sections.StartBy.TheVariants.{Width}
use Rattle.row_model.specs.Changes.{mirrored, swapped}
use Rattle.row_model.specs.Start.{start_rows, upright}
use Rattle.row_model.specs.Stands.{column_of}
use Rattle.row_model.specs.Widths.{all_columns}

-- a kind of so many columns with one terminal, which has a position above in the first column
abbrev cell : ℕ → CellKind
cell columns = record {
  name = [];
  columns = columns;
  height = 40;
  terminals = record { name = []; power = false } ∷ [];
  positions = record { terminal = 0; top = true; column = 0 } ∷ [];
}

abbrev inst : ℕ → Inst
inst kind = record { name = []; kind = kind }

abbrev pin_in : ℕ → ℕ → Pin
pin_in instance net = record { instance = instance; terminal = 0; net = net }

-- two nets of two pins each that cross two rows of two cells
abbrev crossed : Netlist
crossed = record {
  kinds = cell 1 ∷ [];
  height = 40;
  instances = inst 0 ∷ (inst 0 ∷ (inst 0 ∷ (inst 0 ∷ [])));
  pins = pin_in 0 1 ∷ (pin_in 1 2 ∷ (pin_in 2 2 ∷ (pin_in 3 1 ∷ [])));
  nets = [] ∷ ([] ∷ []);
}

crossed-start : start_rows Width crossed 2 ≡ (upright 0 ∷ (upright 1 ∷ [])) ∷ ((upright 2 ∷ (upright 3 ∷ [])) ∷ [])
unfolding start_rows all_columns
crossed-start = refl

-- a net of two pins in a row with a cell between them
abbrev apart : Netlist
apart = record {
  kinds = cell 1 ∷ [];
  height = 40;
  instances = inst 0 ∷ (inst 0 ∷ (inst 0 ∷ []));
  pins = pin_in 0 1 ∷ (pin_in 1 2 ∷ (pin_in 2 1 ∷ []));
  nets = [] ∷ ([] ∷ []);
}

-- a cell of two columns with its pin in the first
abbrev wide : Netlist
wide = record { kinds = cell 2 ∷ []; height = 40; instances = inst 0 ∷ []; pins = pin_in 0 1 ∷ []; nets = [] ∷ [] }

wide-column : column_of wide (start_rows Width wide 1) (pin_in 0 1) ≡ 0
unfolding start_rows all_columns column_of
wide-column = refl

wide-mirrored : column_of wide (mirrored 0 (start_rows Width wide 1)) (pin_in 0 1) ≡ 1
unfolding start_rows all_columns column_of mirrored
wide-mirrored = refl

-- a swap with itself, or with what stands in no row, changes nothing
not-swapped : swapped 1 1 (start_rows Width apart 1) ≡ start_rows Width apart 1
unfolding start_rows all_columns swapped
not-swapped = refl

not-there : swapped 1 3 (start_rows Width apart 1) ≡ start_rows Width apart 1
unfolding start_rows all_columns swapped
not-there = refl
