use Rattle.std.proofs.Common.{◌≤◌, ℕ, Bool, true, false, arith}
use Rattle.choose_core.specs.declared.candidate.Next.{Next}
use Rattle.choose_core.specs.declared.candidate.Next.TheVariants.{Ends, Top, Bottom, Both}
use Rattle.choose_core.specs.declared.plan.Manner.{Manner}
use Rattle.choose_core.specs.declared.plan.Manner.TheVariants.{Published, LookingAhead}
use Rattle.greedy_column.specs.declared.entering.ChannelEdge.{ChannelEdge}
use Rattle.greedy_column.specs.declared.entering.ChannelEdge.TheVariants.{Upper, Lower}
use Rattle.greedy_column.specs.Places.{place_by_edge, place_by_next, place_of_new}

edge_bounds : (edge : ChannelEdge) (least most : ℕ) → least ≤ most → (least ≤ place_by_edge edge least most) × (place_by_edge edge least most ≤ most)
edge_bounds Upper least most order = (order, omega arith)
edge_bounds Lower least most order = (omega arith, order)

next_bounds : (next : Next) (edge : ChannelEdge) (least most : ℕ) → least ≤ most → (least ≤ place_by_next next edge least most) × (place_by_next next edge least most ≤ most)
next_bounds Top edge least most order = (order, omega arith)
next_bounds Bottom edge least most order = (omega arith, order)
next_bounds Both edge least most order = edge_bounds edge least most order
next_bounds Ends edge least most order = edge_bounds edge least most order

-- a new track has at least as many tracks below it as it is to have, and at most as many
pub place_bounds : (manner : Manner) (holds : Bool) (next : Next) (edge : ChannelEdge) (tracks least most : ℕ) → least ≤ most
    → (least ≤ place_of_new manner holds next edge tracks least most) × (place_of_new manner holds next edge tracks least most ≤ most)
place_bounds Published holds next edge tracks least most order = (omega arith, omega arith)
place_bounds LookingAhead true next edge tracks least most order = edge_bounds edge least most order
place_bounds LookingAhead false next edge tracks least most order = next_bounds next edge least most order
