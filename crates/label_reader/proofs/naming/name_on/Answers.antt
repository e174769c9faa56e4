use Rattle.std.proofs.Common.{◌≡◌, ap, sym, length, arith}
use Rattle.std.proofs.lemmas.Bool.Decides.{nat_tests}
use Rattle.std.specs.Prelude.{option_map}
use Rattle.label_reader.specs.Naming.{name_of}
use Rattle.label_reader.proofs.NamingLaws.{nothing-on}
use Rattle.label_reader.proofs.naming.name_on.Goals as goal

pub returns-then-is_empty : goal.returns-then-is_empty
returns-then-is_empty c =
    let none : length c.args.shapes.now ≡ 0 = grind (arith, nat_tests, c.is_empty.ensures, c.if-is_empty.true) in
    sym (ap (option_map name_of) (nothing-on c.args.outline.now c.args.labels.now c.args.shapes.now none))
