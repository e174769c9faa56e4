use Rattle.std.proofs.Common.{◌≡◌, refl, ℕ, List, [], ◌∷◌, All, arith}
use Rattle.std.proofs.lemmas.List.Elements.{All-nil, All-cons}
use Rattle.std.specs.Prelude.{pos, codes}
use Rattle.channel_model.specs.declared.wiring.Segment.TheVariants.{Across, Along}
use Rattle.channel_model.specs.Elements.{Element, segment, via, elements}
use Rattle.channel_model.specs.Wired.{IsOnGrid}
use Rattle.samples.specs.Sample.{sample}
use Rattle.wire_geom.specs.declared.drawn.Drawn.{Drawn}
use Rattle.wire_geom.specs.Drawing.{drawing}
use Rattle.channel_tests.specs.Samples.{joined_pins, near_vias}

-- a rectangle of net 1 on a layer
abbrev on_layer : List ℕ → ℕ → ℕ → ℕ → ℕ → Drawn
on_layer layer x0 y0 x1 y1 =
    record { shape = record { layer = layer; rect = record { x0 = pos x0; y0 = pos y0; x1 = pos x1; y1 = pos y1 } }; net = 1 }

-- the two verticals, the horizontal, and two pads and a cut for each via
joined_pins_drawn : drawing sample 48 joined_pins
    ≡ on_layer (codes "NP") 500 9600 1100 11600 ∷ (on_layer (codes "NP") 2100 9600 2700 11600 ∷ (on_layer (codes "NM") 400 10900 2800 11500
    ∷ (on_layer (codes "NM") 400 10800 1200 11600 ∷ (on_layer (codes "NP") 400 10800 1200 11600 ∷ (on_layer (codes "NC") 600 11000 1000 11400
    ∷ (on_layer (codes "NM") 2000 10800 2800 11600 ∷ (on_layer (codes "NP") 2000 10800 2800 11600 ∷ (on_layer (codes "NC") 2200 11000 2600 11400 ∷ []))))))))
joined_pins_drawn = refl

abbrev via_at : ℕ → ℕ → ℕ → Element
via_at net column track = via (record { net = net; column = column; track = track })

-- the worked wirings lie on their grids
pub joined_pins_on_grid : All (IsOnGrid 2 1) (elements joined_pins)
joined_pins_on_grid =
    let p = IsOnGrid 2 1 in
    let vias : List Element = via_at 1 0 1 ∷ (via_at 1 1 1 ∷ []) in
    let along : Element = segment (Along 1 1 0 1) in
    let second : Element = segment (Across 1 1 0 1) in
    All-cons p (segment (Across 1 0 0 1)) (second ∷ (along ∷ vias)) (omega arith, omega arith, omega arith)
    (All-cons p second (along ∷ vias) (omega arith, omega arith, omega arith)
    (All-cons p along vias (omega arith, omega arith, omega arith, omega arith)
    (All-cons p (via_at 1 0 1) (via_at 1 1 1 ∷ []) (omega arith, omega arith, omega arith)
    (All-cons p (via_at 1 1 1) [] (omega arith, omega arith, omega arith) (All-nil p)))))

pub near_vias_on_grid : All (IsOnGrid 2 2) (elements near_vias)
near_vias_on_grid =
    let p = IsOnGrid 2 2 in
    All-cons p (via_at 1 0 1) (via_at 2 1 1 ∷ (via_at 3 0 2 ∷ [])) (omega arith, omega arith, omega arith)
    (All-cons p (via_at 2 1 1) (via_at 3 0 2 ∷ []) (omega arith, omega arith, omega arith)
    (All-cons p (via_at 3 0 2) [] (omega arith, omega arith, omega arith) (All-nil p)))
