use Rattle.std.proofs.Common.{◌≡◌, ◌<◌, ◌≤◌, ◌∙◌, ℕ, List, length, ap, sym, subst}
use Rattle.design_model.specs.Netlist.{IsNetlist, Netlist}
use Rattle.row_board.specs.Board.{AreSeated, IsBoard}
use Rattle.row_board.specs.Moving.{AreUnmoved}
use Rattle.row_board.specs.NetCosts.{Tabled}
use Rattle.row_board.specs.RowLengths.{Lengths}
use Rattle.row_board.specs.Spot.{Spot}
use Rattle.row_board.specs.Standings.{IsEntered}
use Rattle.row_board.specs.declared.moving.MovedSeats.{MovedSeats}
use Rattle.row_model.specs.Rows.{ArePlaced}
use Rattle.row_board.proofs.ReachLaws.{all-entered}
use Rattle.row_board.specs.SpansView.{AreSpans}
use Rattle.row_board.specs.Weights.{AreFew}
use Rattle.row_board.specs.declared.spans.Spans.TheInside.{Inside}
use Rattle.row_model.specs.declared.rows.Seat.{Seat}

-- weighed rows whose seats changed are weighed rows again, once their tables tell of the change
pub spans-kept : (old : Inside) → AreSpans old → (rows written : List (List Seat)) → written ≡ rows → (costs : Tabled) → costs ≡ record old.costs { standings = costs.standings }
    → (lengths : Lengths) → IsBoard old.costs.design rows costs.standings lengths → AreSpans (record { rows = written; costs = costs; lengths = lengths })
spans-kept old are rows written same costs rest lengths board =
    let design : costs.design ≡ old.costs.design = ap (λ (t : Tabled). t.design) rest in
    record {
      good = subst IsNetlist (sym design) are.good;
      few = subst AreFew (sym (ap (λ (t : Tabled). t.weights) rest)) are.few;
      board = subst (λ (d : Netlist). IsBoard d written costs.standings lengths) (sym design)
          (subst (λ (l : List (List Seat)). IsBoard old.costs.design l costs.standings lengths) (sym same) board);
    }

-- two reaches are entered one after the other, and the table is right again
pub both-entered : (d : Netlist) (rows : List (List Seat)) (old : List Spot) (once new : Tabled) (first second : MovedSeats) → ArePlaced d rows → length old ≡ length d.instances
    → AreUnmoved d rows old first second → once.design ≡ d
    → length once.standings ≡ length old → ((k : ℕ) → first.from ≤ k → k < first.to → IsEntered d rows once.standings first.row k)
    → ((r k : ℕ) → IsEntered d rows old r k → IsEntered d rows once.standings r k)
    → length new.standings ≡ length once.standings → ((k : ℕ) → second.from ≤ k → k < second.to → IsEntered once.design rows new.standings second.row k)
    → ((r k : ℕ) → IsEntered once.design rows once.standings r k → IsEntered once.design rows new.standings r k) → AreSeated d rows new.standings
both-entered d rows old once new first second placed count unmoved same counted entered kept counted_too entered_too kept_too = record {
  placed = placed;
  count = counted_too ∙ counted ∙ count;
  entered = all-entered d rows old once.standings new.standings first second unmoved entered kept
      (λ k low high. subst (λ (d : Netlist). IsEntered d rows new.standings second.row k) same (entered_too k low high))
      (λ r k was. subst (λ (d : Netlist). IsEntered d rows new.standings r k) same (kept_too r k (subst (λ (d : Netlist). IsEntered d rows once.standings r k) (sym same) was)));
}
