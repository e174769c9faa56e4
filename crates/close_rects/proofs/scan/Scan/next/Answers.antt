use Rattle.std.proofs.Common.{◌∙◌}
use Rattle.close_rects.proofs.Fits.{IsNextClose-found, entry_at, rest_at-none}
use Rattle.close_rects.proofs.scan.Scan.next.Goals as goal

pub returns-in-Some-clause-first : goal.returns-in-Some-clause-first
returns-in-Some-clause-first c =
    let first = rw c.items-in-loop-self.ensures at c.at-item.ensures.is in
    let second = rw c.items-in-Some.ensures at c.at.ensures.is in
    let next = IsNextClose-found _ _ _ _ _ c.at-item.result c.loop-self.self-inside.reach.low c.loop-self.invariant.fit first
    (rw c.near-window.ensures at c.in-Some.ensures.first) in
    rw c.numbers.ensures (c.loop-self.invariant.rest ∙ next.is _ _ (entry_at c.loop-self.self-inside.indexed _ _ first) (entry_at c.loop-self.self-inside.indexed _ _ second))

pub loop-self-preserved : goal.loop-self-preserved
loop-self-preserved c =
    let here = rw c.items-in-loop-self.ensures at c.at-item.ensures.is in
    record {
      rest = c.loop-self.invariant.rest ∙ rest_at-none _ _ _ _ c.at-item.result c.loop-self.self-inside.reach.low c.loop-self.invariant.fit here
          (rw c.near-window.ensures at c.in_default.ensures.none);
      fit = c.loop-self.invariant.fit;
    }
