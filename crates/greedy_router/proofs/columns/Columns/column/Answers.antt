use Rattle.std.proofs.Common.{◌≡◌, ◌≤◌, Some, arith, length, rules}
use Rattle.std.specs.Prelude.{slice_get}
use Rattle.std.proofs.lemmas.Option.{slice_get-get_or, slice_get_past}
use Rattle.greedy_router.specs.Columns.{columns_in}
use Rattle.greedy_router.proofs.ColumnsLaws.{columns-at, columns-length}
use Rattle.greedy_router.proofs.columns.Columns.column.Goals as goal

pub returns-then-number-len-clause-none : goal.returns-then-number-len-clause-none
returns-then-number-len-clause-none c =
    let parts = c.self.inside.parts in
    let long = columns-length parts c.self.invariant in
    let past : length parts.entered.items ≤ c.args.number = search rules in
    rw (← c.self.view_is) (slice_get_past (columns_in parts) c.args.number (omega (arith, long, past)))

pub returns-clause-some : goal.returns-clause-some
returns-clause-some c =
    let parts = c.self.inside.parts in
    let there : slice_get parts.entered.items c.args.number ≡ Some c.index.result.now = search (rules, slice_get-get_or) in
    rw (← c.self.view_is)
    (columns-at parts c.args.number c.index.result.now c.at.result.now c.at-2.result.now c.at-3.result.now c.at-4.result.now there
    c.at.ensures c.at-2.ensures c.at-3.ensures c.at-4.ensures)
