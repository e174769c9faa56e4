use Rattle.std.proofs.Common.{◌≡◌, ◌+◌, ◌*◌, ap, ◌∙◌, refl, subst, arith, ℕ, length, map, Some, All}
use Rattle.std.proofs.lemmas.List.{length-append, length-map}
use Rattle.std.proofs.lemmas.List.Elements.{All-get_or}
use Rattle.std.proofs.lemmas.Option.{slice_get_within, get_or_from_slice_get}
use Rattle.std.specs.List.{flat_map}
use Rattle.std.specs.Prelude.{slice_get}
use Rattle.channel_model.specs.Elements.{Element, segment, via, elements}
use Rattle.channel_model.specs.declared.wiring.Segment.{Segment}
use Rattle.channel_model.specs.declared.wiring.Via.{Via}
use Rattle.channel_model.specs.declared.wiring.Wiring.{Wiring}
use Rattle.tech_rules.specs.Rules.{RuleValues}
use Rattle.wire_geom.specs.Drawing.{drawing, drawn_of, segment_piece, via_pieces}
use Rattle.wire_geom.specs.declared.drawn.Drawn.{Drawn}
use Rattle.wire_geom.proofs.DrawingLaws.{drawing_parts}
use Rattle.std_laws.proofs.Every.{All-front}
use Rattle.std_laws.proofs.Places.{get-before, get-behind, map-at}
use Rattle.std_laws.proofs.Images.{get-threes, length-threes}

-- a wiring is drawn with a rectangle for each segment and three for each via
pub drawing-length : (r : RuleValues) (base : ℕ) (w : Wiring) → length (drawing r base w) ≡ length w.segments + 3 * length w.vias
drawing-length r base w =
    ap length (drawing_parts r base w)
    ∙ length-append (map (λ s. drawn_of r (segment_piece r base w.tracks s)) w.segments) (flat_map (λ v. map (drawn_of r) (via_pieces r base v)) w.vias)
    ∙ omega (
      arith,
      length-map w.segments (λ s. drawn_of r (segment_piece r base w.tracks s)),
      length-threes (λ v. map (drawn_of r) (via_pieces r base v)) (λ v. refl) w.vias,
    )

-- the rectangle of a segment stands at the segment's place
pub segment-place : (r : RuleValues) (base : ℕ) (w : Wiring) (k : ℕ) (s : Segment) → slice_get w.segments k ≡ Some s
    → slice_get (drawing r base w) k ≡ Some (drawn_of r (segment_piece r base w.tracks s))
segment-place r base w k s at =
    ap (λ l. slice_get l k) (drawing_parts r base w)
    ∙ get-before (map (λ x. drawn_of r (segment_piece r base w.tracks x)) w.segments) (flat_map (λ v. map (drawn_of r) (via_pieces r base v)) w.vias) k
    (drawn_of r (segment_piece r base w.tracks s)) (map-at (λ x. drawn_of r (segment_piece r base w.tracks x)) w.segments k s at)

-- the rectangles of a via stand behind the segments and the vias before it
pub via-place : (r : RuleValues) (base : ℕ) (w : Wiring) (i part k : ℕ) (v : Via) (drawn : Drawn) → slice_get w.vias i ≡ Some v
    → slice_get (map (drawn_of r) (via_pieces r base v)) part ≡ Some drawn → k ≡ length w.segments + (3 * i + part)
    → slice_get (drawing r base w) k ≡ Some drawn
via-place r base w i part k v drawn at inner is =
    ap (λ l. slice_get l k) (drawing_parts r base w)
    ∙ get-behind (map (λ x. drawn_of r (segment_piece r base w.tracks x)) w.segments) (flat_map (λ x. map (drawn_of r) (via_pieces r base x)) w.vias) k
    (3 * i + part) (is ∙ omega (arith, length-map w.segments (λ x. drawn_of r (segment_piece r base w.tracks x))))
    ∙ get-threes (λ x. map (drawn_of r) (via_pieces r base x)) (λ x. refl) w.vias i part (3 * i + part) v drawn at inner refl

-- a segment of a wiring on the grid is on the grid
pub segment-on : (P : Element → Type 0) (w : Wiring) → All P (elements w) → (k : ℕ) (s : Segment) → slice_get w.segments k ≡ Some s → P (segment s)
segment-on P w all k s at =
    subst (λ (x : Segment). P (segment x)) (get_or_from_slice_get w.segments k s s at)
    (All-get_or (λ x. P (segment x)) w.segments k s (slice_get_within w.segments k s at) (All-front P segment w.segments (map via w.vias) all))
