use Rattle.std.proofs.Common.{◌≡◌, ◌++◌, List, [], ◌∷◌, map, slice_get, rules, ap, sym, ◌∙◌, arith}
use Rattle.std.proofs.lemmas.List.FromFn.{map-range_with_len_more}
use Rattle.std.specs.List.{range_with_len}
use Rattle.list_facts.specs.Lists.{list_there}
use Rattle.design_model.specs.declared.design.Position.{Position}
use Rattle.row_model.specs.PinColumns.{of_terminal, terminal_columns}
use Rattle.row_model.specs.declared.cell_columns.PinColumns.{PinColumns}
use Rattle.row_model.proofs.CellColumns.{own-columns}
use Rattle.row_model.proofs.cell_columns.kind_columns.Goals as goal

pub loop-n-preserved : goal.loop-n-preserved
loop-n-preserved c =
    let n = c.loop-n.n in
    let at : c.at.result.now ≡ list_there (slice_get c.in_ok-lists.lists c.loop-n.n) = search rules in
    let own : c.at.result.now ≡ of_terminal n c.args.kind.now.positions = at ∙ ap list_there (c.in_ok-lists.ensures n c.loop-n-test.true) ∙ search rules in
    c.in_ok-push.ensures.items
    ∙ ap (λ (xs : List PinColumns). xs ++ c.terminal_columns.result ∷ []) c.loop-n.invariant
    ∙ ap (λ (x : PinColumns). map (terminal_columns c.args.kind.now.positions) (range_with_len 0 n) ++ x ∷ []) (c.terminal_columns.ensures ∙ ap (λ (ps : List Position). terminal_columns ps n) own ∙ own-columns c.args.kind.now.positions n)
    ∙ sym (map-range_with_len_more (terminal_columns c.args.kind.now.positions) 0 n n (omega arith))
