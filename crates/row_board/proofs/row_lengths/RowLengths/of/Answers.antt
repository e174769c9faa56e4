use Rattle.std.proofs.Common.{ℕ, List, ◌++◌, length, map, rules, ap, ap₂, sym, ◌∙◌, arith, subst}
use Rattle.design_model.specs.Netlist.{Netlist}
use Rattle.row_model.specs.NearStands.{AreShort}
use Rattle.row_model.specs.Widths.{row_width}
use Rattle.row_model.specs.declared.rows.Seat.{Seat}
use Rattle.row_board.proofs.row_lengths.RowLengths.of.Goals as goal

pub loop-seats-init : goal.loop-seats-init
loop-seats-init c = record {
  widths = ap (λ (l : List ℕ). l ++ map (row_width c.design-design.result.now) c.rows-rows.result.now) c.new-widths.ensures.items
      ∙ ap₂ (λ (d : Netlist) (l : List (List Seat)). map (row_width d) l) c.design-design.ensures.is c.rows-rows.ensures.is;
  misses = search rules;
  short = subst AreShort (sym c.rows-rows.ensures.is) c.rows-rows.ensures.short;
  few = omega (arith, ap length c.new-widths.ensures.items, ap length c.rows-rows.ensures.is, c.rows-rows.ensures.few);
}
