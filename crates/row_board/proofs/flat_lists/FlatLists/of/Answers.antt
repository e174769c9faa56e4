use Rattle.std.proofs.Common.{ℕ, sym, arith, slice_get}
use Rattle.std.proofs.lemmas.List.FromFn.{map-range_with_len_more}
use Rattle.list_facts.specs.Lists.{list_there}
use Rattle.row_board.proofs.flat_lists.FlatLists.of.Goals as goal

pub loop-n-preserved : goal.loop-n-preserved
loop-n-preserved g c =
    rw (c.in_ok-push.ensures, c.loop-n.invariant, c.at.ensures)
    (sym (map-range_with_len_more (λ (n : ℕ). list_there (slice_get c.args.lists.now n)) 0 c.loop-n.n c.loop-n.n (omega arith)))
