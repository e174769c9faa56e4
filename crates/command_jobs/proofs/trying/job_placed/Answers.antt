use Rattle.std.proofs.Common.{ℕ, IfOk, arith, subst, sym}
use Rattle.command_jobs.specs.Placed.{IsPlacedAs}
use Rattle.command_jobs.specs.Tries.{try_of}
use Rattle.command_jobs.proofs.TryLaws.{alone}
use Rattle.command_jobs.proofs.trying.job_placed.Goals as goal

pub returns-then-get-eq1-clause-placed : goal.returns-then-get-eq1-clause-placed
returns-then-get-eq1-clause-placed g c =
    let r = c.args.rules.now in
    let ds = c.args.designs.now in
    let w = c.args.wanted.now in
    subst (λ (number : ℕ). IfOk c.placed_as.result (IsPlacedAs (try_of r ds w number))) (sym (alone r ds w (omega (arith, c.get.ensures.is, c.if-get-eq1.true)))) c.placed_as.ensures.placed
