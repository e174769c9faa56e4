use Rattle.std.proofs.Common.{◌+◌, ◌-◌, get_or}
use Rattle.greedy_column.proofs.StartLaws.{AreSorted-part, none-tell, own-bounds, own-tell}
use Rattle.greedy_column.proofs.starts.own_uses.Goals as goal

pub slice_bounds-result-count : goal.slice_bounds-result-count
slice_bounds-result-count c = (own-bounds c.args.uses.now c.args.starts.now c.requires.starts c.args.net c.if-number-starts.true).0

pub slice_bounds-result-start : goal.slice_bounds-result-start
slice_bounds-result-start c = (own-bounds c.args.uses.now c.args.starts.now c.requires.starts c.args.net c.if-number-starts.true).0

pub returns-then-number-starts-clause-sorted : goal.returns-then-number-starts-clause-sorted
returns-then-number-starts-clause-sorted c =
    AreSorted-part c.args.uses.now (get_or c.args.starts.now c.args.net 0) (get_or c.args.starts.now (c.args.net + 1) 0 - get_or c.args.starts.now c.args.net 0)
    c.requires.sorted

pub returns-then-number-starts-clause-own : goal.returns-then-number-starts-clause-own
returns-then-number-starts-clause-own c = λ column.
    own-tell c.args.uses.now c.args.starts.now c.requires.starts c.args.net column c.if-number-starts.true

pub returns-else-number-starts-clause-own : goal.returns-else-number-starts-clause-own
returns-else-number-starts-clause-own c = λ column.
    none-tell c.args.uses.now c.args.starts.now c.requires.starts c.args.net column c.if-number-starts.false
