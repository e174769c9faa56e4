use Rattle.std.specs.List.{AllByRecursion, range_with_len}
use Rattle.std.proofs.Common.{◌≡◌, ◌≤◌, ℕ, ◌+◌, ◌*◌, List, ◌∷◌, map, arith, zero, suc, [], length, fold, max, sum, sym, subst}
use Rattle.std.proofs.lemmas.List.Sums.{sum_by-cons}
use Rattle.std.proofs.lemmas.List.FromFn.{length-range_with_len}
use Rattle.std.proofs.lemmas.List.{length-map}
use Rattle.std.proofs.Math.Nat.{mul-le-mul}
use Rattle.tech_rules.specs.Rules.{RuleValues}
use Rattle.design_model.specs.Netlist.{IsNetlist, Netlist}
use Rattle.design_model.proofs.DesignPins.{nets-few}
use Rattle.row_model.specs.Rows.{ArePlaced}
use Rattle.row_model.specs.declared.rows.Seat.{Seat}
use Rattle.row_model.proofs.PlacedLaws.{IsWithin, rows-within}
use Rattle.feed_cells.specs.Crossings.{all_nets, crossing_of, is_in}
use Rattle.feed_cells.specs.Fed.{Fed, IsFed, cells_in, fed_from, fed_row, fed_rows, items_width, nets_in, row_height}
use Rattle.feed_cells.proofs.FedLaws.{fed-long}
use Rattle.feed_cells.proofs.FedWidths.{row-narrow}
use Rattle.pin_assign.specs.Bounds.{channels_height}
use Rattle.pin_assign.specs.Bounded.{AreBounded, AreFewNets}
use Rattle.std_laws.proofs.Counts.{filter-short}

-- the height of channels, one and the others
pub height-more : (r : RuleValues) (n : ℕ) (nets : List ℕ) → channels_height r (n ∷ nets) ≡ (2 * n + 1) * r.grid.track + channels_height r nets
height-more r n nets = sum_by-cons (λ (k : ℕ). k) ((2 * n + 1) * r.grid.track) (map (λ (k : ℕ). (2 * k + 1) * r.grid.track) nets)

-- the sum of heights, one and the others
pub sum-more : (n : ℕ) (ns : List ℕ) → sum (n ∷ ns) ≡ n + sum ns
sum-more n ns = sum_by-cons (λ (k : ℕ). k) n ns

pub ruleset bound_laws = (mul-le-mul, height-more, sum-more)

module _ (d : Netlist) (good : IsNetlist d) (rows : List (List Seat)) where
  widest : (from row : ℕ) (rest : List (List Seat)) → from ≤ 3000000000000 → AllByRecursion (IsWithin (length d.instances) 20000) rest
      → fold max from (map (items_width d) (fed_from d rows row rest)) ≤ 3000000000000
  widest from row [] low short = low
  widest from row (seats ∷ rest) low short =
      widest (max from (items_width d (fed_row d rows row seats))) (row + 1) rest (omega (arith, row-narrow d rows good row seats short.0.1)) short.1

  nets-narrow : (channel : ℕ) → length (nets_in d rows channel) ≤ 200000
  nets-narrow channel =
      omega (arith, filter-short (λ (net : ℕ). is_in (crossing_of d rows net) channel) (all_nets d), length-range_with_len 1 (length d.nets), nets-few d good)

  few-from : (channel n : ℕ) → AreFewNets (map (λ (c : ℕ). length (nets_in d rows c)) (range_with_len channel n))
  few-from channel zero = tt
  few-from channel (suc n) = (nets-narrow channel, few-from (channel + 1) n)

  rows-bounded : ArePlaced d rows → AreBounded (fed_rows d rows)
  unfolding fed_rows
  rows-bounded placed =
      record {
        rows = omega (arith, fed-long d rows, placed.few);
        heights = omega (arith, length-map rows (row_height d), placed.few);
        columns = widest 0 0 rows (omega arith) (rows-within d rows good placed);
        channels = omega (arith, length-map (range_with_len 0 (length rows + 1)) (λ (c : ℕ). length (nets_in d rows c)), length-range_with_len 0 (length rows + 1), placed.few);
        nets = few-from 0 (length rows + 1);
      }

-- rows with their feeds are of sizes that keep the bound of a layout below 2 ^ 64
pub fed-bounded : (d : Netlist) → IsNetlist d → (fed : Fed) → IsFed d fed → AreBounded fed
fed-bounded d good fed fed_is = subst AreBounded (sym fed_is.is) (rows-bounded d good (cells_in fed.rows) fed_is.placed)
