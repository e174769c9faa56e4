use Rattle.std.proofs.Common.{◌≡◌, ◌<◌, ℕ, length, map, take, get_or}
use Rattle.std.specs.List.{enumerate_from}
use Rattle.geom_core.specs.Extent.{Extent}
use Rattle.close_rects.specs.Items.{fresh, HasInside}
use Rattle.close_rects.proofs.items.Items.numbered.Given as goal

abbrev pub invariant-loop-k : goal.invariant-loop-k
invariant-loop-k l = record {
  len : length l.list.items ≡ l.k;
  numbered : l.list.items ≡ map fresh (enumerate_from 0 (take l.k l.rects));
  inside : (i : ℕ) (d : Extent) → i < l.k → HasInside (get_or l.rects i d);
}
