use Rattle.std.proofs.Common.{◌≡◌, ◌≤◌, ℕ, zero, suc, ◌+◌, List, [], ◌∷◌, length, Bool, true, false, if◌then◌else◌, fold, refl, ap, sym, ◌∙◌, arith}
use Rattle.std.proofs.lemmas.List.FromFn.{length-map-range_with_len}
use Rattle.std.specs.List.{range_with_len}
use Rattle.anneal_int.specs.Annealed.{after_change, after_change_at, after_changes, all_changes, annealed, changed, end_of, judged}
use Rattle.anneal_int.specs.Changes.{chance_number, change_number}
use Rattle.anneal_int.specs.Schedule.{Annealing}
use Rattle.anneal_int.specs.declared.draws.Change.{Change}
use Rattle.anneal_int.specs.declared.draws.Change.TheVariants.{Mirror, Swap}
use Rattle.design_model.specs.Netlist.{Netlist}
use Rattle.row_board.specs.Weights.{Weighing}
use Rattle.row_model.proofs.SwapLaws.{mirrored-length, swapped-length}
use Rattle.row_model.specs.Start.{counted_row, rows_from, rounded_up, start_rows}
use Rattle.row_model.specs.Widths.{all_columns}
use Rattle.row_model.specs.declared.rows.Seat.{Seat}
use Rattle.row_model.proofs.StartLaws.{rows-count}
use Rattle.tech_rules.specs.declared.sections.StartBy.{StartBy}
use Rattle.tech_rules.specs.declared.sections.StartBy.TheVariants.{Width, Count}

-- a design begins with as many rows as are asked for
start-count : (by : StartBy) (d : Netlist) (rows : ℕ) → length (start_rows by d rows) ≡ rows
unfolding start_rows
start-count Width d rows = rows-count d (rounded_up (all_columns d) rows) rows 0 (length d.instances)
start-count Count d rows = length-map-range_with_len (counted_row (length d.instances) rows) 0 rows

-- a change leaves as many rows
changed-count : (change : Change) (rows : List (List Seat)) → length (changed change rows) ≡ length rows
changed-count (Mirror a) rows = mirrored-length rows a
changed-count (Swap a b) rows = swapped-length rows a b

either-count : (taken : Bool) (change : Change) (rows : List (List Seat)) → length (if taken then changed change rows else rows) ≡ length rows
either-count true change rows = changed-count change rows
either-count false change rows = refl

judged-count : (d : Netlist) (w : Weighing) (t chance : ℕ) (change : Change) (rows : List (List Seat)) → length (judged d w t chance change rows) ≡ length rows
unfolding judged
judged-count d w t chance change rows = either-count _ change rows

after-count : (d : Netlist) (s : Annealing) (seed : ℕ) (rows : List (List Seat)) (m : ℕ) → length (after_change d s seed rows m) ≡ length rows
unfolding after_change after_change_at
after-count d s seed rows m = judged-count d s.weights _ _ (change_number seed (length d.instances) m) rows

all-count : (d : Netlist) (s : Annealing) (seed : ℕ) (rows : List (List Seat)) (ms : List ℕ) → length (fold (after_change d s seed) rows ms) ≡ length rows
all-count d s seed rows [] = refl
all-count d s seed rows (m ∷ ms) = all-count d s seed (after_change d s seed rows m) ms ∙ after-count d s seed rows m

end-count : (d : Netlist) (s : Annealing) (seed : ℕ) (rows : List (List Seat)) → length (end_of d rows s seed) ≡ length rows
unfolding after_changes
end-count d s seed rows = all-count d s seed rows (range_with_len 0 (all_changes d s))

-- so does annealing
annealed-count : (d : Netlist) (start : List (List Seat)) (s : Annealing) (seed : ℕ) → length (annealed d start s seed) ≡ length start
unfolding annealed
annealed-count d start s seed = by _
  where
    by : (better : Bool) → length (if better then end_of d start s seed else start) ≡ length start
    by true = end-count d s seed start
    by false = refl

-- annealed rows are no more than those that the design begins with
pub annealed-few : (d : Netlist) (made first : List (List Seat)) (by : StartBy) (s : Annealing) (seed count : ℕ) → first ≡ start_rows by d count → made ≡ annealed d first s seed
    → count ≤ 512 → length made ≤ 512
annealed-few d made first by s seed count begins is few =
    let long : length made ≡ count = ap length is ∙ annealed-count d first s seed ∙ ap length begins ∙ start-count by d count in omega (arith, long, few)
