use Rattle.std.proofs.Common.{◌∙◌, sym, arith}
use Rattle.cif_reader.specs.Standing.{definition_seen, shapes_made}
use Rattle.cif_reader.specs.Table.{items_drawn}
use Rattle.cif_reader.proofs.BehindLemmas.{inside-given}
use Rattle.cif_reader.proofs.WithinLaws.{given-fit}
use Rattle.cif_reader.proofs.inside.step_inside.Goals as goal

pub push-requires : goal.push-requires
push-requires c =
    let shapes = items_drawn c.args.table.now.symbols c.args.definition.now.kept.items.items in
    let count = sym c.requires.count in
    let fit = given-fit c.args.table.now.symbols (definition_seen c.args.table.now.symbols c.args.definition.now).level c.args.command.command.now
    (shapes_made c.in-Ok.given) (c.in-Ok.ensures.gives shapes count c.requires.few) in
    omega (arith, fit.few, count)

pub returns : goal.returns
returns c =
    let shapes = items_drawn c.args.table.now.symbols c.args.definition.now.kept.items.items in
    let count = sym c.requires.count in
    let gives = c.in-Ok.ensures.gives shapes count c.requires.few in
    let is = c.in-Ok.ensures.is shapes count in
    let fit = given-fit c.args.table.now.symbols (definition_seen c.args.table.now.symbols c.args.definition.now).level c.args.command.command.now
    (shapes_made c.in-Ok.given) gives in
    let made = sym c.depth.ensures ∙ c.in_ok-depth.was in
    inside-given c.args.table.now c.args.definition.now c.push.new.kept c.rename.new.name c.follow.new.self c.args.command.command.now (shapes_made c.in-Ok.given)
    c.in_ok-depth.depth c.requires gives (sym is.depth ∙ made) (c.in_ok-push.ensures c.args.table.now c.requires is.sound fit.near made)
    c.in_ok-rename.ensures c.follow.ensures
