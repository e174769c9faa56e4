use Rattle.std.proofs.Common.{◌≡◌, ◌∙◌, rules, length, ap, sym, arith}
use Rattle.std.specs.Option.{option_to_list}
use Rattle.cif_reader.specs.Levels.{named}
use Rattle.cif_reader.specs.Standing.{shapes_made}
use Rattle.cif_reader.proofs.BehindLemmas.{outside-given}
use Rattle.cif_reader.proofs.outside.step_outside.Goals as goal

pub overflow_cast-before : goal.overflow_cast-before
overflow_cast-before c = omega (arith, c.requires, c.len-before.ensures)

pub returns : goal.returns
returns c =
    let count : length c.args.main.now.shapes.items ≡ c.len-before.result = search rules in
    let gives = c.in-Ok.ensures.gives c.args.main.now.shapes.items count (omega (arith, count, c.requires)) in
    let is = c.in-Ok.ensures.is c.args.main.now.shapes.items count in
    outside-given c.args.table.now c.args.main.now _ c.args.command.command.now (shapes_made c.in-Ok.given) (option_to_list c.in_ok-cell.cell) c.in_ok-depth.depth
    gives (ap named (sym (is.cells c.args.main.now.waiting)) ∙ rw count c.in_ok-cell.ensures) (sym is.depth ∙ sym c.depth.ensures ∙ c.in_ok-depth.was) c.in_ok-draw.ensures c.in_ok-push_cell.ensures
    c.follow.ensures c.in_ok-wait.ensures c.max-main.ensures
