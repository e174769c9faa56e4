use Rattle.cif_reader.proofs.TabledLemmas.{place-below, kept-there}
use Rattle.cif_reader.proofs.found.Found.kept.Goals as goal

pub index-requires : goal.index-requires
index-requires c =
    rw c.table.inside.kept.ok.0 (place-below c.table.inside c.args.self.now.table.now c.args.self.now.place c.table.view_is c.args.self.now.below)

pub returns : goal.returns
returns c =
    kept-there c.table.inside c.args.self.now.table.now c.args.self.now.place c.index.result.now c.table.invariant c.table.view_is c.args.self.now.below c.index.ensures
