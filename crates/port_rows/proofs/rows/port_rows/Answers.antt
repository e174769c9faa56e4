use Rattle.std.proofs.Common.{sym, ◌∙◌, subst}
use Rattle.row_model.specs.Rows.{ArePlaced, AreRows}
use Rattle.row_model.proofs.PlacedLaws.{placed-distinct}
use Rattle.port_rows.specs.PortRows.{HaveEdges, with_port_rows}
use Rattle.port_rows.proofs.PortEdges.{rows-edges}
use Rattle.port_rows.proofs.RowLaws.{rows-made, rows-placed}
use Rattle.port_rows.proofs.rows.port_rows.Goals as goal

pub new-requires-2 : goal.new-requires-2
new-requires-2 c =
    let p = c.args.ported.now in
    let rows = c.args.rows.now in
    subst AreRows
    (sym (c.new.ensures ∙ rows-made p rows c.items.result.now c.new-made.result.items _ _ _ c.cells_in-first.result c.cells_in-first.ensures.is c.new-made.ensures.items
    (c.items.ensures ∙ c.rows.view_is) c.in_ok-add_port_row.ensures c.in_ok-add_rows.ensures c.in_ok-add_port_row-2.ensures))
    (placed-distinct p.design (with_port_rows p rows) (rows-placed p rows c.requires))

pub returns-clause-placed : goal.returns-clause-placed
returns-clause-placed c =
    let p = c.args.ported.now in
    let rows = c.args.rows.now in
    subst (ArePlaced p.design)
    (sym (c.new-2.ensures ∙ c.new.ensures ∙ rows-made p rows c.items.result.now c.new-made.result.items _ _ _ c.cells_in-first.result c.cells_in-first.ensures.is c.new-made.ensures.items
    (c.items.ensures ∙ c.rows.view_is) c.in_ok-add_port_row.ensures c.in_ok-add_rows.ensures c.in_ok-add_port_row-2.ensures))
    (rows-placed p rows c.requires)

pub returns-clause-edges : goal.returns-clause-edges
returns-clause-edges c =
    let p = c.args.ported.now in
    let rows = c.args.rows.now in
    subst (HaveEdges p)
    (sym (c.new-2.ensures ∙ c.new.ensures ∙ rows-made p rows c.items.result.now c.new-made.result.items _ _ _ c.cells_in-first.result c.cells_in-first.ensures.is c.new-made.ensures.items
    (c.items.ensures ∙ c.rows.view_is) c.in_ok-add_port_row.ensures c.in_ok-add_rows.ensures c.in_ok-add_port_row-2.ensures))
    (rows-edges p rows c.requires)
