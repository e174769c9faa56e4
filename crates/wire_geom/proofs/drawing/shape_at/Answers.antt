use Rattle.std.proofs.Common.{◌≡◌, ◌∙◌, ◌-◌, ◌/◌, ◌%◌, ◌<◌, ap, arith, sym, length, Some}
use Rattle.std.proofs.lemmas.Option.{slice_get-get_or}
use Rattle.channel_model.specs.Wired.{IsOnGrid}
use Rattle.channel_model.specs.declared.wiring.Segment.TheVariants.{Across}
use Rattle.wire_geom.proofs.DrawingPlaces.{segment-on, segment-place, via-place}
use Rattle.wire_geom.specs.declared.drawn.Drawn.{Drawn}
use Rattle.wire_geom.proofs.drawing.shape_at.Goals as goal

pub segment_drawn-requires : goal.segment_drawn-requires
segment_drawn-requires c =
    rw c.items-segments.ensures
    (segment-on (IsOnGrid c.args.wiring.now.columns c.args.wiring.now.tracks) c.args.wiring.now c.requires.on_grid c.args.k _
    (slice_get-get_or c.args.wiring.now.segments c.args.k (Across 0 0 0 0) (rw c.items-segments.ensures at c.if-k-count.true)))

pub returns-then-k-count : goal.returns-then-k-count
returns-then-k-count c =
    segment-place c.args.rules.now c.args.base c.args.wiring.now c.args.k _
    (slice_get-get_or c.args.wiring.now.segments c.args.k (Across 0 0 0 0) (rw c.items-segments.ensures at c.if-k-count.true))
    ∙ ap (λ (d : Drawn). Some d) (sym (rw c.items-segments.ensures at c.segment_drawn.ensures))

pub returns : goal.returns
returns c =
    let count : length c.items-segments.result.now ≡ length c.args.wiring.now.segments = ap length c.items-segments.ensures in
    let part : (c.args.k - length c.args.wiring.now.segments) / 3 < length c.args.wiring.now.vias = omega (arith, c.requires.within) in
    via-place c.args.rules.now c.args.base c.args.wiring.now ((c.args.k - length c.args.wiring.now.segments) / 3)
    ((c.args.k - length c.args.wiring.now.segments) % 3) c.args.k _ c.via_drawn.result
    (slice_get-get_or c.args.wiring.now.vias ((c.args.k - length c.args.wiring.now.segments) / 3) (record { net = 0; column = 0; track = 0 }) part)
    (rw (c.items-segments.ensures, c.items.ensures) at c.via_drawn.ensures)
    (omega (arith, c.if-k-count.false, count))
