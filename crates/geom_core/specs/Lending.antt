-- a list whose items are lent for writing: it ends as what the slice holds last
use Rattle.std.specs.Prelude.{List}
use Rattle.std.specs.Borrow.{Lends, MutBor, Fml, Array, RattleType}
use Rattle.geom_core.specs.Written.{overwritten}
use Rattle.geom_core.specs.contracts.items.Items.{the_row}

module _ (T : RattleType) where
  -- once the borrow r ends, the list is what r shows last
  abbrev pub LendsItems : MutBor (List T.Denot) → MutBor (List T.Denot) → Fml
  LendsItems s r = Lends (the_row T) (Array T 0) s r (overwritten s.now)
