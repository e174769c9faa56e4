-- the first and the last channel of a net, and what they are of its pins
use Rattle.std.specs.Prelude.{ℕ}
use Rattle.feed_cells.specs.Crossings.{lowest, highest}
use Rattle.feed_cells.specs.declared.crossing.Crossing.{Crossing}
use Rattle.feed_cells.specs.declared.crossing.Crossing.TheVariants.{Alone, One, Many}

-- the lowest and the highest channel that a net stands in, 0 where it stands in none
abbrev pub first_channel : Crossing → ℕ
first_channel Alone = 0
first_channel (One b) = b
first_channel (Many lo hi) = lo
