-- annealed rows
use Rattle.std.specs.Prelude.{ℕ, ◌*◌, ◌/◌, List, length, fold, nat_le, if◌then◌else◌}
use Rattle.std.specs.List.{range_with_len}
use Rattle.design_model.specs.Netlist.{Netlist}
use Rattle.row_model.specs.Changes.{mirrored, swapped}
use Rattle.row_board.specs.Cost.{cost_of}
use Rattle.row_board.specs.Weights.{Weighing}
use Rattle.row_model.specs.declared.rows.Seat.{Seat}
use Rattle.anneal_int.specs.Changes.{chance_number, change_number}
use Rattle.anneal_int.specs.Schedule.{Annealing}
use Rattle.anneal_int.specs.Cooling.{temperature_of}
use Rattle.anneal_int.specs.Judging.{is_taken}
use Rattle.anneal_int.specs.declared.draws.Change.{Change}
use Rattle.anneal_int.specs.declared.draws.Change.TheVariants.{Mirror, Swap}

-- rows after a change
abbrev pub changed : Change → List (List Seat) → List (List Seat)
changed (Mirror a) rows = mirrored a rows
changed (Swap a b) rows = swapped a b rows

-- rows after a change, or before it where it is not taken at this temperature with this random word
unfoldable pub judged : Netlist → Weighing → ℕ → ℕ → Change → List (List Seat) → List (List Seat)
judged d w t chance change rows = if is_taken t chance (cost_of d rows w) (cost_of d (changed change rows) w) then changed change rows else rows

-- how many changes a stage has, and all
abbrev pub stage_changes : Netlist → Annealing → ℕ
stage_changes d s = s.moves * length d.instances

unfoldable pub all_changes : Netlist → Annealing → ℕ
all_changes d s = s.stages * stage_changes d s

-- rows after change m of a seed is judged at this temperature
unfoldable pub after_change_at : Netlist → Weighing → ℕ → ℕ → List (List Seat) → ℕ → List (List Seat)
after_change_at d w seed t rows m = judged d w t (chance_number seed m) (change_number seed (length d.instances) m) rows

-- rows after change m is judged at the temperature of its stage
unfoldable pub after_change : Netlist → Annealing → ℕ → List (List Seat) → ℕ → List (List Seat)
after_change d s seed rows m = after_change_at d s.weights seed (temperature_of s.temperature (m / stage_changes d s)) rows m

-- rows after so many changes from change 0 on
unfoldable pub after_changes : Netlist → Annealing → ℕ → List (List Seat) → ℕ → List (List Seat)
after_changes d s seed rows n = fold (after_change d s seed) rows (range_with_len 0 n)

-- rows after all changes
abbrev pub end_of : Netlist → List (List Seat) → Annealing → ℕ → List (List Seat)
end_of d start s seed = after_changes d s seed start (all_changes d s)

-- annealed rows: those after all changes where they cost no more than those at first, and else those at first
unfoldable pub annealed : Netlist → List (List Seat) → Annealing → ℕ → List (List Seat)
annealed d start s seed =
    if nat_le (cost_of d (end_of d start s seed) s.weights) (cost_of d start s.weights) then end_of d start s seed else start
