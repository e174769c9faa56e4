-- which track a net is given
use Rattle.std.specs.Prelude.{◌+◌, ◌==◌, ◌&&◌, not, if◌then◌else◌, Bool, ℕ, zero, suc, List, [], ◌∷◌, length, nat_lt}
use Rattle.std.specs.List.{position_or_len}
use Rattle.channel_model.specs.Pins.{Pins}
use Rattle.left_edge.specs.Columns.{net_at}
use Rattle.left_edge.specs.Spans.{span}

-- whether the net of a column has its first pin there
abbrev pub begins : Pins → ℕ → Bool
begins pins column = not (net_at pins column == 0) && (span pins (net_at pins column)).first == column

-- whether it has its last pin there
abbrev pub ends : Pins → ℕ → Bool
ends pins column = not (net_at pins column == 0) && (span pins (net_at pins column)).last == column

-- whether a net's last pin stands left of a column
abbrev pub is_past : Pins → ℕ → ℕ → Bool
is_past pins column net = nat_lt (span pins net).last column

-- a net goes to the lowest of these tracks whose last net is past, or to a new one on top
abbrev pub with_net : (ℕ → Bool) → ℕ → List ℕ → List ℕ
with_net past net [] = net ∷ []
with_net past net (last ∷ lasts) = if past last then net ∷ lasts else last ∷ with_net past net lasts

-- the last net of each track, from the lowest up, once the nets that begin in the first columns have their tracks
unfoldable pub lasts : Pins → ℕ → List ℕ
lasts pins zero = []
lasts pins (suc column) =
    if begins pins column then with_net (is_past pins column) (net_at pins column) (lasts pins column) else lasts pins column

-- how many tracks lie below that of a net: in its first column, those below the lowest whose last net is past, or all of them
unfoldable pub level_of : Pins → ℕ → ℕ
level_of pins net = position_or_len (is_past pins (span pins net).first) (lasts pins (span pins net).first)

-- the track of a net
abbrev pub track_of : Pins → ℕ → ℕ
track_of pins net = level_of pins net + 1

-- how many tracks there are
abbrev pub track_count : Pins → ℕ
track_count pins = length (lasts pins (length pins.top))
