use Rattle.std.proofs.Common.{◌≡◌, ◌+◌, ◌++◌, ◌∙◌, eqb, ℕ, List, [], ◌∷◌, Bool, true, false, cond, length, map, refl}
use Rattle.greedy_column.specs.Tracks.{line_of}
use Rattle.greedy_column.specs.Verticals.{floor, on, ceiling, verticals_of_pins}
use Rattle.greedy_column.specs.Joining.{span_in, spans_of_pins}

-- the verticals of pins, on the lines of some order of the tracks
pub spans_of_pins-in : (order : List ℕ) (straight : Bool) (top_net bottom_net top bottom : ℕ)
    → spans_of_pins straight top_net bottom_net (line_of order top) (line_of order bottom) (length order + 1)
    ≡ map (span_in order) (verticals_of_pins straight top_net bottom_net top bottom)
spans_of_pins-in order true top_net bottom_net top bottom = refl
spans_of_pins-in order false top_net bottom_net top bottom = step (eqb bottom_net 0) (eqb top_net 0) where
  step : (lower upper : Bool)
      → cond lower [] (record { net = bottom_net; low = 0; high = line_of order bottom } ∷ [])
      ++ cond upper [] (record { net = top_net; low = line_of order top; high = length order + 1 } ∷ [])
      ≡ map (span_in order) (cond lower [] (record { net = bottom_net; low = floor; high = on bottom } ∷ [])
      ++ cond upper [] (record { net = top_net; low = on top; high = ceiling } ∷ []))
  step true true = refl
  step true false = refl
  step false true = refl
  step false false = refl

pub spans_of_pins-on : (order : List ℕ) (straight : Bool) (top_net bottom_net top_id bottom_id top bottom upper_edge : ℕ) → top ≡ line_of order top_id
    → bottom ≡ line_of order bottom_id → upper_edge ≡ length order + 1
    → spans_of_pins straight top_net bottom_net top bottom upper_edge ≡ map (span_in order) (verticals_of_pins straight top_net bottom_net top_id bottom_id)
spans_of_pins-on order straight top_net bottom_net top_id bottom_id top bottom upper_edge above below upper =
    (λ i. spans_of_pins straight top_net bottom_net (above i) (below i) (upper i)) ∙ spans_of_pins-in order straight top_net bottom_net top_id bottom_id
