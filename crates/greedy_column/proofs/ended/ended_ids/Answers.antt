use Rattle.std.proofs.Common.{rules}
use Rattle.greedy_column.proofs.SortedLaws.{AreEnded-from_sort}
use Rattle.greedy_column.proofs.ended.ended_ids.Goals as goal

pub returns : goal.returns
returns c =
    AreEnded-from_sort c.args.tracks.now c.args.ending.now c.in_ok-ended.ended.items c.sort_unstable.new.self.items _ (search rules)
    c.sort_unstable.ensures.permutation c.sort_unstable.ensures.sorted c.dedup.ensures.filtered
