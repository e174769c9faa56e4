use Rattle.std.proofs.Common.{◌≡◌, ◌-◌, ◌+◌, arith}
use Rattle.shelf_io.proofs.Fronts.{gives_front}
use Rattle.shelf_io.proofs.files.copy_from.Goals as goal

pub returns-clause-gives : goal.returns-clause-gives
returns-clause-gives c =
    let width : (c.min-start.result + c.min-n.result) - c.min-start.result ≡ c.min-n.result = omega arith in
    gives_front _ _ _ _ _ _ _ c.requires c.min-start.ensures c.min-n.ensures (rw width at c.copy_from_slice.ensures.after)
