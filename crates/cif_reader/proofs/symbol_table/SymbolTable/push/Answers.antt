use Rattle.cif_reader.proofs.TabledLemmas.{one-more}
use Rattle.cif_reader.proofs.symbol_table.SymbolTable.push.Goals as goal

pub invariant_of-self-in-Ok : goal.invariant_of-self-in-Ok
invariant_of-self-in-Ok c =
    (one-more c.self.inside (record { kept = c.push.new.self; places = c.enter.new.places }) c.args.self.now c.args.kept c.self.invariant c.self.view_is c.requires
    c.in_ok-push.ensures.items (rw (c.len-place.ensures, c.self.inside.kept.ok.0) at c.in-Ok.ensures.ok)).0

pub returns-in-Ok : goal.returns-in-Ok
returns-in-Ok c =
    (one-more c.self.inside (record { kept = c.push.new.self; places = c.enter.new.places }) c.args.self.now c.args.kept c.self.invariant c.self.view_is c.requires
    c.in_ok-push.ensures.items (rw (c.len-place.ensures, c.self.inside.kept.ok.0) at c.in-Ok.ensures.ok)).1
