use Rattle.std.proofs.Common.{◌≡◌, ◌≤◌, ◌++◌, ◌-◌, ◌+◌, ℕ, List, length, drop, Some}
use Rattle.shelf_io.proofs.loading.load.Given as goal

-- what has come is a front of the file, and the shelf is as it was
abbrev pub invariant-loop-n : goal.invariant-loop-n
invariant-loop-n g l = record {
  short : length l.all.items ≤ l.limit;
  files : g.S.Shelf.holds l.shelf ≡ g.S.Shelf.holds l.fn.shelf;
  writes : g.S.Shelf.write_faults l.shelf ≡ g.S.Shelf.write_faults l.fn.shelf;
  reads : g.S.Shelf.read_faults l.shelf ≡ g.S.Shelf.read_faults l.fn.shelf;
  front : (bytes : List ℕ) → g.S.Shelf.holds l.fn.shelf l.name ≡ Some bytes → bytes ≡ l.all.items ++ drop (length l.all.items) bytes;
}

abbrev pub decreases-loop-n : goal.decreases-loop-n
decreases-loop-n g l = l.limit + 1 - length l.all.items
