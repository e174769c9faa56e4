use Rattle.std.proofs.Common.{◌≡◌, ◌≤◌, ◌+◌, length, map, sum}
use Rattle.std.specs.List.{AllByRecursion}
use Rattle.row_board.specs.Extreme.{across}
use Rattle.row_board.specs.NetPins.{own_pin}
use Rattle.row_board.specs.Trial.{ends_net, ends_net_alone, joined, marked_pins}
use Rattle.row_board.proofs.EndLaws.{IsOfNet}
use Rattle.row_board.proofs.net_costs.NetCosts.weighed.Given as goal

abbrev pub invariant-loop-pin : goal.invariant-loop-pin
invariant-loop-pin l = record {
  of_nets : AllByRecursion (IsOfNet l.self-inside.nets) (map (own_pin l.instance) l.rest);
  over : l.found.over + sum (map (ends_net l.self-inside.nets l.self-inside.standings.items l.side) (map (own_pin l.instance) l.rest))
      ≡ l.fn.before.over + marked_pins l.self-inside.nets (ends_net l.self-inside.nets l.self-inside.standings.items l.side) l.instance;
  under : l.found.under + sum (map (ends_net_alone l.self-inside.nets l.self-inside.standings.items (across l.side)) (map (own_pin l.instance) l.rest))
      ≡ l.fn.before.under + (marked_pins l.self-inside.nets (joined l.self-inside.nets) l.instance
      + marked_pins l.self-inside.nets (ends_net_alone l.self-inside.nets l.self-inside.standings.items (across l.side)) l.instance);
  few : l.found.over + length l.rest ≤ l.fn.before.over + 200000;
  few_under : l.found.under + length l.rest ≤ l.fn.before.under + 400000;
}

abbrev pub decreases-loop-pin : goal.decreases-loop-pin
decreases-loop-pin l = length l.rest
