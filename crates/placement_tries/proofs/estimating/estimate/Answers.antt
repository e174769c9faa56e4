use Rattle.std.proofs.Common.{rules, ◌≡◌, length, ap, ◌∙◌, arith}
use Rattle.feed_cells.specs.Fed.{Fed}
use Rattle.pin_assign.specs.Bounded.{AreBounded}
use Rattle.pin_assign.proofs.FedBounds.{fed-bounded}
use Rattle.placement_tries.proofs.estimating.estimate.Goals as goal

pub rows_height-requires : goal.rows_height-requires
rows_height-requires c =
    let bounded : AreBounded c.args.fed.now = fed-bounded c.args.design.now (search rules) c.args.fed.now c.requires.fed in
    let heights : c.items.result.now ≡ c.args.fed.now.heights = c.items.ensures ∙ ap (λ (f : Fed). f.heights) c.fed.view_is in
    omega (arith, bounded.heights, ap length heights)
