-- what a list becomes when it is written through a lent slice, and how the list types lend their items
use Rattle.std.specs.Prelude.{List, ◌++◌, length, take, drop}

-- a list whose items are overwritten by a list that is as long
abbrev pub overwritten : {X : Type 0} → List X → List X → List X
overwritten old new = take (length old) (new ++ drop (length new) old)
