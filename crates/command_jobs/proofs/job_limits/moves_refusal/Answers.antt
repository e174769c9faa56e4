use Rattle.std.proofs.Common.{arith}
use Rattle.std.proofs.lemmas.Nat.{mul-le}
use Rattle.command_jobs.specs.Limits.{moves_refusal}
use Rattle.command_jobs.proofs.SizeLaws.{none-few}
use Rattle.command_jobs.proofs.job_limits.moves_refusal.Goals as goal

pub overflow_mul-all : goal.overflow_mul-all
overflow_mul-all c = omega (arith, mul-le c.changes.result c.args.tries 20000000000 64 c.changes.ensures.few c.requires.few)
