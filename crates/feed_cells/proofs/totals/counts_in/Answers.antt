use Rattle.feed_cells.proofs.totals.counts_in.Goals as goal
use Rattle.std.proofs.Common.{rules, ◌+◌, ℕ, arith}
use Rattle.feed_cells.specs.Sizes.{count_in}
use Rattle.std_laws.proofs.Places.{filled}

-- Each channel's number is 0 at first, and then that of the nets which stand in it.

pub returns : goal.returns
returns c =
    filled (λ (k n : ℕ). n + count_in c.args.nets.now k) (count_in c.args.nets.now) 0 (λ k. omega arith) c.args.channels
    c.in_ok-counts.counts.items c.count_all.new.counts c.in_ok-counts.counts.len (search rules) (search rules) (search rules) (rw c.as_mut_slice.ensures.value at c.count_all.ensures)
