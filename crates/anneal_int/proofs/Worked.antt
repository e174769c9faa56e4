use Rattle.std.proofs.Common.{◌≡◌, List, [], ◌∷◌, true, false, refl}
use Rattle.design_model.specs.Netlist.{Netlist}
use Rattle.row_model.specs.Changes.{mirrored, swapped}
use Rattle.row_board.specs.Cost.{cost_of, net_cost}
use Rattle.row_model.specs.Start.{upright}
use Rattle.row_model.specs.Stands.{column_of}
use Rattle.row_model.specs.Widths.{all_columns}
use Rattle.row_model.specs.declared.rows.Seat.{Seat}
use Rattle.anneal_int.specs.Annealed.{after_change, after_change_at, after_changes, all_changes, annealed, judged}
use Rattle.anneal_int.specs.Cooling.{temperature_of}
use Rattle.anneal_int.specs.Schedule.{Annealing}
use Rattle.anneal_int.specs.Changes.{change_number, change_of}
use Rattle.anneal_int.specs.Judging.{is_rise_taken, is_taken}
use Rattle.anneal_int.specs.Threshold.{threshold}
use Rattle.anneal_int.specs.Words.{after_words, word}
use Rattle.anneal_int.specs.declared.draws.Change.TheVariants.{Mirror, Swap}

-- three of the thresholds
pub thresholds : (threshold 0 ≡ 65535) × (threshold 1 ≡ 57855) × (threshold 8 ≡ 24176)
unfolding threshold
thresholds = (refl, refl, refl)

-- the first six words of seed 42
pub words : (word 42 0 ≡ 0xa15c02b7) × (word 42 1 ≡ 0x7b47f409) × (word 42 2 ≡ 0xba1d3330) × (word 42 3 ≡ 0x83d2f293) × (word 42 4 ≡ 0xbfa4784b) × (word 42 5 ≡ 0xcbed606e)
unfolding word after_words
words = (refl, refl, refl, refl, refl, refl)

-- its first two changes of three instances, and of two
pub of_three : (change_number 42 3 0 ≡ Swap 0 1) × (change_number 42 3 1 ≡ Swap 1 2)
unfolding change_number change_of word after_words
of_three = (refl, refl)

pub of_two : (change_number 42 2 0 ≡ Swap 1 1) × (change_number 42 2 1 ≡ Swap 1 1)
unfolding change_number change_of word after_words
of_two = (refl, refl)

-- the second word mirrors the cell where it ends with three bits 0
pub mirrors : change_of 5 13 16 ≡ Mirror 3
unfolding change_of
mirrors = refl

-- at temperature 10 a rise by 10 has threshold 8, and one by 80 has none; no rise is always taken
pub rises : (is_taken 10 24175 100 110 ≡ true) × (is_taken 10 24176 100 110 ≡ false) × (is_taken 10 0 100 180 ≡ false) × (is_taken 10 65535 100 100 ≡ true) × (is_taken 10 65535 100 90 ≡ true)
unfolding is_taken is_rise_taken threshold
rises = (refl, refl, refl, refl, refl)

-- three cells of one column in a row, the first and the last of them with a net
abbrev apart : Netlist
apart = record {
  kinds = record {
    name = [];
    columns = 1;
    height = 40;
    terminals = record { name = []; power = false } ∷ [];
    positions = record { terminal = 0; top = true; column = 0 } ∷ [];
  } ∷ [];
  height = 40;
  instances = record { name = []; kind = 0 } ∷ (record { name = []; kind = 0 } ∷ (record { name = []; kind = 0 } ∷ []));
  pins = record { instance = 0; terminal = 0; net = 1 } ∷ (record { instance = 1; terminal = 0; net = 2 } ∷ (record { instance = 2; terminal = 0; net = 1 } ∷ []));
  nets = [] ∷ ([] ∷ []);
}

abbrev in_order : List (List Seat)
in_order = (upright 0 ∷ (upright 1 ∷ (upright 2 ∷ []))) ∷ []

abbrev once : Annealing
once = record { temperature = 1; stages = 1; moves = 1; weights = record { row_cost = 4; length_cost = 1 } }

-- a stage of one change for each cell: 0 and 1 change places, then 1 and 2, and 2 with itself
apart-annealed : annealed apart in_order once 42 ≡ (upright 2 ∷ (upright 0 ∷ (upright 1 ∷ []))) ∷ []
unfolding annealed after_changes after_change after_change_at judged all_changes temperature_of is_taken is_rise_taken threshold change_number change_of word after_words cost_of net_cost column_of all_columns swapped mirrored
apart-annealed = refl
