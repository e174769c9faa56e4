use Rattle.layout_picture.proofs.cells.append_cells.Goals as goal
use Rattle.std.proofs.Common.{◌≡◌, ◌++◌, ◌∷◌, List, [], ap, true}
use Rattle.std.proofs.lemmas.List.{nil_from_length}
use Rattle.shelf_io.proofs.SoFar.{so_far-begun, so_far-done, so_far-failed, so_far-more}
use Rattle.geom_core.specs.Extent.{Extent}
use Rattle.geom_core.specs.declared.layout.Cell.{Cell}
use Rattle.geom_core.specs.declared.layout.Layout.{Layout}
use Rattle.layout_picture.specs.Cells.{cell_text, cells_text}

-- the groups of some cells are that of the first and those of the others
cells-first : (f : Extent) (l : Layout) (cs : List Cell) (c : Cell) (rest : List Cell) → cs ≡ c ∷ rest → cells_text f l cs ≡ cell_text f l c ++ cells_text f l rest
cells-first f l cs c rest is = ap (cells_text f l) is

cells-none : (f : Extent) (l : Layout) (cs : List Cell) → cs ≡ [] → cells_text f l cs ≡ []
cells-none f l cs is = ap (cells_text f l) is

pub loop-cell-init : goal.loop-cell-init
loop-cell-init g c = so_far-begun _ c.args.buffer.now _ _ (g.met.K.Sink.place_here c.args.out.now) (g.met.K.Sink.same_here c.args.out.now)

pub returns-in_err-append_cell : goal.returns-in_err-append_cell
returns-in_err-append_cell g c =
    let parts = cells-first c.args.frame.now c.args.layout.now c.loop-cell.rest.now c.in-Some.cell.now c.in-Some.after.now c.in-Some.ensures.cases.0 in
    so_far-failed c.from_residual.result _ (g.met.K.Sink.place_then _ _ _) (g.met.K.Sink.same_then _ _ _) c.from_residual.ensures.0 c.loop-cell.invariant parts c.in_err-append_cell.ensures

pub loop-cell-preserved : goal.loop-cell-preserved
loop-cell-preserved g c =
    let parts = cells-first c.args.frame.now c.args.layout.now c.loop-cell.rest.now c.in-Some.cell.now c.in-Some.after.now c.in-Some.ensures.cases.0 in
    so_far-more (g.met.K.Sink.place_then _ _ _) (g.met.K.Sink.same_then _ _ _ true) c.loop-cell.invariant parts c.in_ok-append_cell.ensures

pub returns : goal.returns
returns g c =
    let none = cells-none c.args.frame.now c.args.layout.now c.loop-cell.rest.now (nil_from_length c.loop-cell.rest.now c.in_default.ensures.cases) in
    so_far-done _ none c.loop-cell.invariant
