use Rattle.std.proofs.Common.{inl, inr, refl}
use Rattle.commands.proofs.Tellings.{fronts-both, rose-on}
use Rattle.commands.proofs.report.report_help.Goals as goal

pub returns-in-Ok : goal.returns-in-Ok
returns-in-Ok g c = inl (record { number = refl; whole = c.in-Ok.ensures.ended.whole; calm = c.in-Ok.ensures.ended.quiet })

pub returns-in-Err : goal.returns-in-Err
returns-in-Err g c = inr (record {
  number = refl;
  fronts = fronts-both _ _ _ _ _ c.in-Err.ensures.failed.front c.print_line.ensures.line.front;
  rose = rose-on _ _ _ c.in-Err.ensures.failed.cause c.print_line.ensures.later;
})
