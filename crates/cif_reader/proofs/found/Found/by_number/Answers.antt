use Rattle.std.proofs.Common.{sym}
use Rattle.cif_reader.proofs.TabledLemmas.{absent-number, number-place}
use Rattle.cif_reader.proofs.found.Found.by_number.Goals as goal

pub returns-in_default-clause-none : goal.returns-in_default-clause-none
returns-in_default-clause-none c = absent-number c.table.inside c.args.table.now c.args.n c.table.invariant c.table.view_is (sym c.in_default.ensures)

pub invariant_of-result : goal.invariant_of-result
invariant_of-result c = record {
  below = (number-place c.table.inside c.args.table.now c.args.n c.in-Some.place c.table.invariant c.table.view_is (sym c.in-Some.ensures)).0;
}

pub returns-clause-place : goal.returns-clause-place
returns-clause-place c = (number-place c.table.inside c.args.table.now c.args.n c.in-Some.place c.table.invariant c.table.view_is (sym c.in-Some.ensures)).1
