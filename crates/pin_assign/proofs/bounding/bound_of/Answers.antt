use Rattle.std.proofs.Common.{rules}
use Rattle.pin_assign.proofs.FedBounds.{fed-bounded}
use Rattle.pin_assign.proofs.bounding.bound_of.Goals as goal

pub bound_within-requires : goal.bound_within-requires
bound_within-requires c = fed-bounded c.args.design.now (search rules) c.args.fed.now c.requires
