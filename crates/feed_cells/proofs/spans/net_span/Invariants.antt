use Rattle.std.proofs.Common.{◌≡◌, ◌==◌, length, map, filter, fold}
use Rattle.design_model.specs.declared.design.Pin.{Pin}
use Rattle.row_model.specs.PinPlaces.{pin_place}
use Rattle.feed_cells.specs.Crossings.{pins_of}
use Rattle.feed_cells.specs.Spans.{joined, span_of}
use Rattle.feed_cells.proofs.spans.net_span.Given as goal

abbrev pub invariant-loop-pin : goal.invariant-loop-pin
invariant-loop-pin l = fold joined l.span (map (pin_place l.design l.rows) (filter (λ (p : Pin). p.net == l.net) l.rest))
    ≡ span_of (map (pin_place l.design l.rows) (pins_of l.design l.net))

abbrev pub decreases-loop-pin : goal.decreases-loop-pin
decreases-loop-pin l = length l.rest
