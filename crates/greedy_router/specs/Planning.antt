-- which of two routed channels is kept
use Rattle.std.specs.Prelude.{◌==◌, ◌&&◌, ◌||◌, if◌then◌else◌, nat_lt, Bool}
use Rattle.channel_model.specs.declared.wiring.Wiring.{Wiring}
use Rattle.greedy_router.specs.declared.sweep.Routed.{Routed}
use Rattle.greedy_router.specs.declared.sweep.Size.{Size}

-- how many tracks and columns a wiring has
abbrev pub size_of : Wiring → Size
size_of wiring = record { tracks = wiring.tracks; columns = wiring.columns }

-- fewer tracks, or as many and fewer columns
abbrev pub is_smaller : Size → Size → Bool
is_smaller one other = nat_lt one.tracks other.tracks || (one.tracks == other.tracks && nat_lt one.columns other.columns)

-- the smaller of two, and the earlier of two that are alike
abbrev pub better : Routed → Routed → Routed
better best one = if is_smaller (size_of one.wiring) (size_of best.wiring) then one else best
