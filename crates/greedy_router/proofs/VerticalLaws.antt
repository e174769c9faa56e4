use Rattle.std.proofs.Common.{◌<◌, ℕ, List, arith}
use Rattle.channel_model.specs.Pins.{Pins}
use Rattle.greedy_column.specs.declared.column.Track.{Track}
use Rattle.greedy_column.specs.declared.column.Column.{Column}
use Rattle.greedy_column.specs.Tracks.{ids}
use Rattle.greedy_column.specs.Replay.{entered}
use Rattle.greedy_column.specs.Verticals.{Vertical, line_at}
use Rattle.greedy_column.specs.Lawful.{IsLawful}
use Rattle.greedy_column.specs.State.{AreNumbered}
use Rattle.greedy_column.proofs.EnteredLaws.{bottom-there, top-holds, target-free}
use Rattle.greedy_column.proofs.VerticalLaws.{IsOf, IsOfPin, of_both, of_bottom, of_top, of_pin, of_join, of_rise, of_fall}
use Rattle.greedy_router.proofs.OrderLaws.{IsDrawn, line_of-positive, line_of-within}

module _ (pins : Pins) (column : ℕ) (before : List Track) (done : Column) where
  abbrev now : List Track
  now = entered pins column done before

  module _ (fresh : ℕ) (numbered : AreNumbered fresh before) (lawful : IsLawful pins column fresh before done) where
    -- both ends of a vertical stand, and the lower one lies below the upper one
    pub record IsUpright (v : Vertical) : Type 0 where
      pub some : 0 < v.net
      pub drawn : IsDrawn (ids now) v
      pub upward : line_at (ids now) v.low < line_at (ids now) v.high

    upright_pin : (v : Vertical) → IsOfPin pins column before done v → IsUpright v
    upright_pin v (of_both equal) = record { some = equal.some; drawn = record { low = tt; high = tt }; upward = omega arith }
    upright_pin v (of_bottom enters) = record {
      some = enters.0;
      drawn = record { low = tt; high = bottom-there pins column fresh before done numbered lawful enters };
      upward = line_of-positive (ids now) done.bottom;
    }
    upright_pin v (of_top enters apart) =
        let own = top-holds pins column fresh before done numbered lawful enters in
        let inside = line_of-within (ids now) done.top own.there in
        record { some = own.net_is; drawn = record { low = own.there; high = tt }; upward = omega (arith, inside) }

    pub upright : (v : Vertical) → IsOf pins column before done v → IsUpright v
    upright v (of_pin kind) = upright_pin v kind
    upright v (of_join net low high member pair) = record { some = pair.lower.net_is; drawn = record { low = pair.lower.there; high = pair.upper.there }; upward = pair.above }
    upright v (of_rise net old new member held rise) =
        let free = target-free pins column fresh before done numbered lawful old new (lawful.moves old new member) in
        record { some = held.net_is; drawn = record { low = held.there; high = free.0 }; upward = rise }
    upright v (of_fall net old new member held fall) =
        let free = target-free pins column fresh before done numbered lawful old new (lawful.moves old new member) in
        record { some = held.net_is; drawn = record { low = free.0; high = held.there }; upward = fall }
