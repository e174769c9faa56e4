use Rattle.std.proofs.Common.{◌≡◌, ℕ, ◌+◌, ◌++◌, List, [], ◌∷◌, length, ap, sym, ◌∙◌, arith}
use Rattle.std.proofs.lemmas.List.FromFn.{map-range_with_len_more}
use Rattle.design_model.specs.Netlist.{Netlist}
use Rattle.row_model.specs.Start.{counted_row}
use Rattle.row_model.specs.declared.rows.Seat.{Seat}
use Rattle.row_model.proofs.starting.counted_rows.Goals as goal

pub loop-row-preserved : goal.loop-row-preserved
loop-row-preserved c =
    let place : 0 + c.loop-row.row ≡ c.loop-row.row = omega arith in
    let count : length c.items.result.now ≡ length c.args.design.now.instances = ap length (c.items.ensures ∙ ap (λ (d : Netlist). d.instances) c.design.view_is) in
    c.in_ok-push.ensures.items
    ∙ ap (λ (row : List Seat). c.loop-row.made.items ++ row ∷ []) (c.in_ok-counted_row.ensures ∙ ap (λ (n : ℕ). counted_row n c.args.rows c.loop-row.row) count)
    ∙ ap (λ (l : List (List Seat)). l ++ counted_row (length c.args.design.now.instances) c.args.rows c.loop-row.row ∷ []) c.loop-row.invariant
    ∙ sym (map-range_with_len_more (counted_row (length c.args.design.now.instances) c.args.rows) 0 c.loop-row.row c.loop-row.row place)
