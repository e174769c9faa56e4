-- the states that a column begins with
use Rattle.std.specs.Prelude.{◌≡◌, ◌⊎◌, ◌<◌, ◌==◌, ℕ, List, Contains}
use Rattle.std.specs.List.{IsDistinct}
use Rattle.channel_model.specs.Pins.{Pins}
use Rattle.channel_model.specs.Nets.{StandsIn}
use Rattle.greedy_column.specs.declared.column.Track.{Track}
use Rattle.greedy_column.specs.declared.column.ColumnState.{ColumnState}
use Rattle.greedy_column.specs.Tracks.{ids}

-- tracks whose ids are above 0, below the first new one, and all different
pub record AreNumbered (fresh : ℕ) (tracks : List Track) : Type 0 where
  pub some : 0 < fresh
  pub positive : (id : ℕ) → Contains (ids tracks) id → 0 < id
  pub below : (id : ℕ) → Contains (ids tracks) id → id < fresh
  pub distinct : IsDistinct (λ i j. i == j) (ids tracks)

-- a state with which a column of a channel may begin
pub record IsState (pins : Pins) (state : ColumnState) : Type 0 where
  pub numbered : AreNumbered state.fresh state.order
  pub standing : (t : Track) → Contains state.order t → (t.net ≡ 0) ⊎ StandsIn pins t.net
