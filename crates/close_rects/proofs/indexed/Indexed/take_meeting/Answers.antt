use Rattle.std.proofs.Common.{true, refl}
use Rattle.close_rects.proofs.Indexes.{IsIndexed-taken}
use Rattle.close_rects.proofs.Sets.{NoneIn-left, Takes-marked}
use Rattle.close_rects.proofs.indexed.Indexed.take_meeting.Goals as goal

pub returns-in_err-at-clause-none : goal.returns-in_err-at-clause-none
returns-in_err-at-clause-none c = rw c.from_residual.ensures (NoneIn-left _ _ c.in_err-at.ensures.none)

pub invariant_of-self : goal.invariant_of-self
invariant_of-self c = rw (c.take.ensures _ c.at-number.ensures.is) (IsIndexed-taken _ _ _ _ refl c.self.invariant)

pub returns-clause-taken : goal.returns-clause-taken
returns-clause-taken c =
    let is = rw c.self.view_is at c.at-number.ensures.is in
    rw (c.renew.ensures, c.take.ensures _ c.at-number.ensures.is, c.self.view_is)
    (Takes-marked c.args.self.now c.in_ok-at.at c.at-number.result (record c.at-number.result { taken = true }) _ is
    (c.in_ok-at.ensures.first.met _ is) refl)
