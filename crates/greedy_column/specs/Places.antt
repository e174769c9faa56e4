-- how many tracks lie below a new one, as published or looking ahead to its net's next pins
use Rattle.std.specs.Prelude.{◌/◌, ℕ, Bool, true, false, min, max}
use Rattle.choose_core.specs.declared.candidate.Next.{Next}
use Rattle.choose_core.specs.declared.candidate.Next.TheVariants.{Ends, Top, Bottom, Both}
use Rattle.choose_core.specs.declared.plan.Manner.{Manner}
use Rattle.choose_core.specs.declared.plan.Manner.TheVariants.{Published, LookingAhead}
use Rattle.greedy_column.specs.declared.entering.ChannelEdge.{ChannelEdge}
use Rattle.greedy_column.specs.declared.entering.ChannelEdge.TheVariants.{Upper, Lower}

-- of the places from `least` to `most` the one nearest to an edge
abbrev pub place_by_edge : ChannelEdge → ℕ → ℕ → ℕ
place_by_edge Upper least most = most
place_by_edge Lower least most = least

-- the one nearest to the next pins, or to this edge where these lie at no one edge
abbrev pub place_by_next : Next → ChannelEdge → ℕ → ℕ → ℕ
place_by_next Top edge least most = most
place_by_next Bottom edge least most = least
place_by_next Both edge least most = place_by_edge edge least most
place_by_next Ends edge least most = place_by_edge edge least most

-- the same, by this edge alone where the net holds a track
abbrev pub place_ahead : Bool → Next → ChannelEdge → ℕ → ℕ → ℕ
place_ahead true next edge least most = place_by_edge edge least most
place_ahead false next edge least most = place_by_next next edge least most

-- How many of some tracks lie below a new one for a pin at an edge, which is to have at least `least` and at most `most` of them below
-- it. As published: the middle, or what lies nearest to it. Looking ahead: what lies nearest to the net's next pins.
abbrev pub place_of_new : Manner → Bool → Next → ChannelEdge → ℕ → ℕ → ℕ → ℕ
place_of_new Published holds next edge tracks least most = max least (min most (tracks / 2))
place_of_new LookingAhead holds next edge tracks least most = place_ahead holds next edge least most
