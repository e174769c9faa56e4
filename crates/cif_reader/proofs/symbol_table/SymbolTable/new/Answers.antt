use Rattle.cif_reader.proofs.TabledLemmas.{none-tabled}
use Rattle.cif_reader.proofs.symbol_table.SymbolTable.new.Goals as goal

pub invariant_of-result : goal.invariant_of-result
invariant_of-result c = (none-tabled (record { kept = c.new.result; places = c.new-2.result }) c.new.ensures.items c.new-2.ensures.empty).0

pub returns : goal.returns
returns c = (none-tabled (record { kept = c.new.result; places = c.new-2.result }) c.new.ensures.items c.new-2.ensures.empty).1
