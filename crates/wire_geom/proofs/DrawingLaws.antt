use Rattle.std.proofs.Common.{◌≡◌, ◌≢◌, inl, inr, refl, ap, sym, ◌∙◌, subst, ℕ, ◌+◌, ◌*◌, ◌++◌, map, Contains, get_or, arith}
use Rattle.std.proofs.lemmas.List.Elements.{All-contains, Contains-append_left}
use Rattle.std.proofs.lemmas.Grind.{flat_map-append}
use Rattle.std.proofs.lemmas.List.Concat.{flat_map_single}
use Rattle.std.proofs.lemmas.List.Folds.{flat_map-map}
use Rattle.std.proofs.lemmas.Int.{ints}
use Rattle.std.specs.List.{flat_map}
use Rattle.std.specs.Prelude.{pos, ◌≤ℤ◌}
use Rattle.channel_model.specs.declared.wiring.Segment.{Segment}
use Rattle.channel_model.specs.declared.wiring.Segment.TheVariants.{Across, Along}
use Rattle.channel_model.specs.declared.wiring.Wiring.{Wiring}
use Rattle.channel_model.specs.Elements.{Layer, vertical, horizontal, Element, segment, via, elements, net_of, Covers, Meets}
use Rattle.channel_model.specs.Pins.{Pins}
use Rattle.channel_model.specs.Wired.{Wired}
use Rattle.geom_core.specs.Rectangles.{Apart, Meet, HasSides, IsSquare}
use Rattle.tech_rules.specs.Lengths.{length_in}
use Rattle.tech_rules.specs.Rules.{RuleValues, ValidRules, pad}
use Rattle.wire_geom.specs.declared.drawn.Drawn.{Drawn}
use Rattle.wire_geom.specs.Boxes.{Box}
use Rattle.wire_geom.specs.Columns.{InColumns}
use Rattle.wire_geom.specs.Contact.{layer_name, KeepContact}
use Rattle.wire_geom.specs.Drawing.{Mask, on_horizontal, on_vertical, on_cut, Piece, name_of, segment_piece, via_piece, via_pieces, pieces_of, extent_of, drawn_of, drawn_by, drawing}
use Rattle.wire_geom.specs.Edges.{bottom_entry, top_entry, StandsIn, Enters, Keeps, KeepEdges, MeetEntries}
use Rattle.wire_geom.specs.Grid.{centre, line_at, scaled}
use Rattle.wire_geom.specs.Spaces.{NetsKeep, NetsApart}
use Rattle.wire_geom.specs.Widths.{IsCovered, AreWide}
use Rattle.wire_geom.proofs.BoxLaws.{Inside, Clear-inside}
use Rattle.wire_geom.proofs.EndLaws.{upper_end-edge}
use Rattle.wire_geom.proofs.GridLaws.{reach-narrow, halo-columns, space_of, reach_of, halo, mask-clear}
use Rattle.wire_geom.proofs.PatchLaws.{within_columns, Lies, layer_of, patch_of, proper, parted_or_meet}
use Rattle.wire_geom.proofs.PieceLaws.{PieceFacts, IsWide, HasRoom, IsSquareBox, Stands, Stays, Holder, piece_facts}
use Rattle.wire_geom.proofs.ScaleLaws.{scaled-order, scaled-gap, scaled-before, scaled-sum, scaled-clear, scaled-meet}
use Rattle.std_laws.proofs.Members.{map-member, map-cases, Contains-flat_map, Contains-flat_map_cases}

-- the drawing is that of the segments, and then that of the vias
pub drawing_parts : (r : RuleValues) (base : ℕ) (wiring : Wiring) → drawing r base wiring
    ≡ map (λ s. drawn_of r (segment_piece r base wiring.tracks s)) wiring.segments ++ flat_map (λ v. map (drawn_of r) (via_pieces r base v)) wiring.vias
drawing_parts r base wiring =
    rw (
      flat_map-append (drawn_by r base wiring.tracks) (map segment wiring.segments) (map via wiring.vias),
      flat_map-map (drawn_by r base wiring.tracks) segment wiring.segments,
      flat_map-map (drawn_by r base wiring.tracks) via wiring.vias,
      flat_map_single (λ s. drawn_of r (segment_piece r base wiring.tracks s)) wiring.segments,
    )
    refl

-- a layer's name tells the layer
pub mask_is : (r : RuleValues) → ValidRules r → (k mask : Mask) → name_of r k ≡ name_of r mask → k ≡ mask
mask_is r valid on_horizontal on_horizontal e = refl
mask_is r valid on_horizontal on_vertical e = absurd (valid.layers.horizontal_vertical e)
mask_is r valid on_horizontal on_cut e = absurd (valid.layers.horizontal_cut e)
mask_is r valid on_vertical on_horizontal e = absurd (valid.layers.horizontal_vertical (sym e))
mask_is r valid on_vertical on_vertical e = refl
mask_is r valid on_vertical on_cut e = absurd (valid.layers.vertical_cut e)
mask_is r valid on_cut on_horizontal e = absurd (valid.layers.horizontal_cut (sym e))
mask_is r valid on_cut on_vertical e = absurd (valid.layers.vertical_cut (sym e))
mask_is r valid on_cut on_cut e = refl

-- a rectangle has the sides of its box
drawn_room : (r : RuleValues) (d : ℕ) (b : Box) → HasRoom (2 * d) b → HasSides (length_in r d) (extent_of r b)
drawn_room r d b h = record { across = scaled-gap r b.x0 d b.x1 h.across; up = scaled-gap r b.y0 d b.y1 h.up }

drawn_square : (r : RuleValues) (d : ℕ) (b : Box) → IsSquareBox (2 * d) b → IsSquare (length_in r d) (extent_of r b)
drawn_square r d b h = record { across = scaled-sum r b.x0 d b.x1 h.across; up = scaled-sum r b.y0 d b.y1 h.up }

-- an element is drawn on each of its layers
layer_shown : (r : RuleValues) (base tracks : ℕ) (e : Element) (layer : Layer) (column line : ℕ) → Covers e layer column line
    → (d : Drawn) × Contains (drawn_by r base tracks e) d × (d.shape.layer ≡ layer_name r layer)
layer_shown r base tracks (segment (Across net column low high)) vertical x y covers =
    (drawn_of r (segment_piece r base tracks (Across net column low high)), (0, omega arith, refl), refl)
layer_shown r base tracks (segment (Across net column low high)) horizontal x y covers = absurd covers
layer_shown r base tracks (segment (Along net track from to)) vertical x y covers = absurd covers
layer_shown r base tracks (segment (Along net track from to)) horizontal x y covers =
    (drawn_of r (segment_piece r base tracks (Along net track from to)), (0, omega arith, refl), refl)
layer_shown r base tracks (via v) vertical x y covers = (drawn_of r (via_piece r base on_vertical (pad r) v), (1, omega arith, refl), refl)
layer_shown r base tracks (via v) horizontal x y covers = (drawn_of r (via_piece r base on_horizontal (pad r) v), (0, omega arith, refl), refl)

module _ (pins : Pins) (wiring : Wiring) (wired : Wired pins wiring) (r : RuleValues) (valid : ValidRules r) (base : ℕ) where
  abbrev floor : ℕ
  floor = line_at r base 0

  abbrev ceiling : ℕ
  ceiling = line_at r base (wiring.tracks + 1)

  abbrev F : Element → Piece → Type 0
  F e p = PieceFacts pins r base wiring.tracks e p

  facts : (e : Element) → Contains (elements wiring) e → (p : Piece) → Contains (pieces_of r base wiring.tracks e) p → F e p
  facts e listed p member =
      let grid = wired.on_grid e listed in
      All-contains (F e) (pieces_of r base wiring.tracks e) p
      (piece_facts pins r valid base wiring.columns wiring.tracks e grid.0 grid.1.0 (wired.edges e listed)) member

  -- what holds of each piece's rectangle holds of each rectangle of an element
  each_of : (P : Drawn → Type 0) (e : Element) → Contains (elements wiring) e
      → ((p : Piece) → Contains (pieces_of r base wiring.tracks e) p → F e p → P (drawn_of r p))
      → (d : Drawn) → Contains (drawn_by r base wiring.tracks e) d → P d
  each_of P e listed each d member =
      let found = map-cases (drawn_of r) (pieces_of r base wiring.tracks e) d member in
      subst P found.2 (each found.0 found.1 (facts e listed found.0 found.1))

  -- and of each rectangle of the wiring
  each_drawn : (P : Drawn → Type 0)
      → ((e : Element) (p : Piece) → Contains (elements wiring) e → Contains (pieces_of r base wiring.tracks e) p → F e p → P (drawn_of r p))
      → (d : Drawn) → Contains (drawing r base wiring) d → P d
  each_drawn P each d member =
      let found = Contains-flat_map_cases (drawn_by r base wiring.tracks) (elements wiring) d member in
      each_of P found.0 found.1 (λ p. each found.0 p found.1) d found.2

  -- the rectangle of a piece is drawn
  is_drawn : (e : Element) (p : Piece) → Contains (elements wiring) e → Contains (pieces_of r base wiring.tracks e) p
      → Contains (drawing r base wiring) (drawn_of r p)
  is_drawn e p listed member =
      Contains-flat_map (drawn_by r base wiring.tracks) (elements wiring) e (drawn_of r p) listed
      (map-member (drawn_of r) (pieces_of r base wiring.tracks e) p member)

  -- widths
  wide_on : (mask : Mask) (p : Piece) → IsWide r p.mask p.box → name_of r p.mask ≡ name_of r mask → IsWide r mask p.box
  wide_on mask p wide named = subst (λ (k : Mask). IsWide r k p.box) (mask_is r valid p.mask mask named) wide

  covered : (mask : Mask) (e : Element) (p : Piece) → Contains (elements wiring) e → Holder (2 * r.cut.enclose) (pieces_of r base wiring.tracks e) mask p
      → IsCovered r (drawing r base wiring) (name_of r mask) (drawn_of r p)
  covered mask e p listed holder = record {
    cover = drawn_of r holder.piece;
    is_drawn = is_drawn e holder.piece listed holder.listed;
    on_layer = ap (name_of r) holder.on_mask;
    same_net = holder.same_net;
    encloses = record {
      left = scaled-before r holder.piece.box.x0 r.cut.enclose p.box.x0 holder.left;
      low = scaled-before r holder.piece.box.y0 r.cut.enclose p.box.y0 holder.low;
      right = scaled-gap r p.box.x1 r.cut.enclose holder.piece.box.x1 holder.right;
      high = scaled-gap r p.box.y1 r.cut.enclose holder.piece.box.y1 holder.high;
    };
  }

  pub drawing_wide : AreWide r (drawing r base wiring)
  drawing_wide = record {
    horizontal = each_drawn (λ d. d.shape.layer ≡ r.horizontal.layer → HasSides (length_in r r.horizontal.width) d.shape.rect)
        (λ e p listed member f named. drawn_room r r.horizontal.width p.box (wide_on on_horizontal p f.wide named));
    vertical = each_drawn (λ d. d.shape.layer ≡ r.vertical.layer → HasSides (length_in r r.vertical.width) d.shape.rect)
        (λ e p listed member f named. drawn_room r r.vertical.width p.box (wide_on on_vertical p f.wide named));
    cut = each_drawn (λ d. d.shape.layer ≡ r.cut.layer → IsSquare (length_in r r.cut.size) d.shape.rect)
        (λ e p listed member f named. drawn_square r r.cut.size p.box (wide_on on_cut p f.wide named));
    in_horizontal = each_drawn (λ d. d.shape.layer ≡ r.cut.layer → IsCovered r (drawing r base wiring) r.horizontal.layer d)
        (λ e p listed member f named. covered on_horizontal e p listed (f.horizontal_pad (mask_is r valid p.mask on_cut named)));
    in_vertical = each_drawn (λ d. d.shape.layer ≡ r.cut.layer → IsCovered r (drawing r base wiring) r.vertical.layer d)
        (λ e p listed member f named. covered on_vertical e p listed (f.vertical_pad (mask_is r valid p.mask on_cut named)));
  }

  -- spaces
  pieces_apart : (mask : Mask) (e f : Element) (p q : Piece) → Contains (elements wiring) e → Contains (elements wiring) f → F e p → F f q
      → p.mask ≡ mask → q.mask ≡ mask → p.net ≢ q.net → Apart (length_in r (space_of r mask)) (extent_of r p.box) (extent_of r q.box)
  pieces_apart mask e f p q listed_e listed_f facts_p facts_q ep eq differ =
      let lies_e = subst (λ (k : Mask). Lies e (layer_of k)) ep facts_p.lies in
      let lies_f = subst (λ (k : Mask). Lies f (layer_of k)) eq facts_q.lies in
      let in_e = subst (λ (k : Mask). Inside p.box (halo r base (reach_of r k) (patch_of e))) ep facts_p.inside in
      let in_f = subst (λ (k : Mask). Inside q.box (halo r base (reach_of r k) (patch_of f))) eq facts_q.inside in
      let proper_e = proper wiring.columns wiring.tracks e (wired.on_grid e listed_e).0 in
      let proper_f = proper wiring.columns wiring.tracks f (wired.on_grid f listed_f).0 in
      elim (parted_or_meet e f (layer_of mask) lies_e lies_f proper_e proper_f) [
        | inl parted ↦
            scaled-clear r (space_of r mask) p.box q.box
            (Clear-inside (2 * space_of r mask) p.box q.box (halo r base (reach_of r mask) (patch_of e)) (halo r base (reach_of r mask) (patch_of f)) in_e in_f
            (mask-clear r valid base mask (patch_of e) (patch_of f) parted))
        | inr meet ↦ absurd (differ (facts_p.net ∙ wired.apart e f listed_e listed_f meet ∙ sym facts_q.net))
      ]

  nets_keep : (mask : Mask) → NetsKeep r (drawing r base wiring) (name_of r mask) (space_of r mask)
  nets_keep mask a b member_a member_b =
      each_drawn (λ a. a.shape.layer ≡ name_of r mask → b.shape.layer ≡ name_of r mask → a.net ≢ b.net
      → Apart (length_in r (space_of r mask)) a.shape.rect b.shape.rect)
      (λ e p listed_e member_p facts_p.
      each_drawn (λ b. name_of r p.mask ≡ name_of r mask → b.shape.layer ≡ name_of r mask → p.net ≢ b.net
      → Apart (length_in r (space_of r mask)) (extent_of r p.box) b.shape.rect)
      (λ f q listed_f member_q facts_q named_p named_q.
      pieces_apart mask e f p q listed_e listed_f facts_p facts_q (mask_is r valid p.mask mask named_p) (mask_is r valid q.mask mask named_q))
      b member_b)
      a member_a

  pub drawing_apart : NetsApart r (drawing r base wiring)
  drawing_apart = record { horizontal = nets_keep on_horizontal; vertical = nets_keep on_vertical; cut = nets_keep on_cut }

  -- columns
  pub drawing_columns : InColumns r wiring.columns (drawing r base wiring)
  drawing_columns = record {
    left = each_drawn (λ d. pos 0 ≤ℤ d.shape.rect.x0) (λ e p listed member f. omega (arith, ints));
    right = each_drawn (λ d. d.shape.rect.x1 ≤ℤ scaled r (2 * (wiring.columns * r.grid.column)))
        (λ e p listed member f.
        scaled-order r p.box.x1 (2 * (wiring.columns * r.grid.column))
        (omega (
          arith,
          f.inside.right,
          halo-columns r base (reach_of r p.mask) wiring.columns (patch_of e) (reach-narrow r valid p.mask)
              (within_columns wiring.columns wiring.tracks e (wired.on_grid e listed).0),
        )));
  }

  -- edges
  enters : (entry : ℕ → ℕ → Type 0) (p : Piece) → Stands r entry p → Enters r entry (drawn_of r p)
  enters entry p s = record {
    column = s.column;
    stands = record { on_layer = ap (name_of r) s.mask; left = ap (scaled r) s.left; right = ap (scaled r) s.right };
    has_entry = s.has_entry;
  }

  stays_drawn : (lower upper : ℕ → ℕ → Type 0) (p : Piece) → Stays r floor ceiling lower upper p
      → Keeps r floor ceiling lower upper (space_of r p.mask) (drawn_of r p)
  stays_drawn lower upper p s = record {
    from = scaled-order r floor p.box.y0 s.from;
    to = scaled-order r p.box.y1 ceiling s.to;
    below = elim s.below [
      | inl far ↦ inl (scaled-gap r floor (space_of r p.mask) p.box.y0 far)
      | inr at ↦ inr (ap (scaled r) at.0, enters lower p at.1)
    ];
    above = elim s.above [
      | inl far ↦ inl (scaled-gap r p.box.y1 (space_of r p.mask) ceiling far)
      | inr at ↦ inr (ap (scaled r) at.0, enters upper p at.1)
    ];
  }

  keeps_on : (mask : Mask) (d : Drawn) → Contains (drawing r base wiring) d → d.shape.layer ≡ name_of r mask
      → Keeps r floor ceiling (bottom_entry pins) (top_entry pins) (space_of r mask) d
  keeps_on mask =
      each_drawn (λ d. d.shape.layer ≡ name_of r mask → Keeps r floor ceiling (bottom_entry pins) (top_entry pins) (space_of r mask) d)
      (λ e p listed member f named.
      subst (λ (k : Mask). Keeps r floor ceiling (bottom_entry pins) (top_entry pins) (space_of r k) (drawn_of r p)) (mask_is r valid p.mask mask named)
      (stays_drawn (bottom_entry pins) (top_entry pins) p f.stays))

  pub drawing_edges : KeepEdges r floor ceiling (bottom_entry pins) (top_entry pins) (drawing r base wiring)
  drawing_edges = record { horizontal = keeps_on on_horizontal; vertical = keeps_on on_vertical; cut = keeps_on on_cut }

  -- entries
  is_segment : (s : Segment) → Contains wiring.segments s → Contains (elements wiring) (segment s)
  is_segment s member =
      Contains-append_left (map segment wiring.segments) (map via wiring.vias) (segment s) (map-member segment wiring.segments s member)

  across_drawn : (net column low high : ℕ) → Contains wiring.segments (Across net column low high)
      → Contains (drawing r base wiring) (drawn_of r (segment_piece r base wiring.tracks (Across net column low high)))
  across_drawn net column low high member =
      is_drawn (segment (Across net column low high)) (segment_piece r base wiring.tracks (Across net column low high))
      (is_segment (Across net column low high) member) (0, omega arith, refl)

  across_stands : (net column low high : ℕ) → StandsIn r column (drawn_of r (segment_piece r base wiring.tracks (Across net column low high)))
  across_stands net column low high = record { on_layer = refl; left = refl; right = refl }

  pub drawing_entries : MeetEntries r floor ceiling (bottom_entry pins) (top_entry pins) (drawing r base wiring)
  drawing_entries = record {
    bottom = λ column net entry.
        let wire = wired.bottom_pins column (omega (arith, entry.0, entry.1)) in
        let here : ℕ = get_or pins.bottom column 0 in (
          drawn_of r (segment_piece r base wiring.tracks (Across here column 0 wire.0)),
          across_drawn here column 0 wire.0 wire.1,
          entry.1,
          across_stands here column 0 wire.0,
          refl,
        );
    top = λ column net entry.
        let wire = wired.top_pins column (omega (arith, entry.0, entry.1)) in
        let here : ℕ = get_or pins.top column 0 in (
          drawn_of r (segment_piece r base wiring.tracks (Across here column wire.0 (wiring.tracks + 1))),
          across_drawn here column wire.0 (wiring.tracks + 1) wire.1,
          entry.1,
          across_stands here column wire.0 (wiring.tracks + 1),
          ap (scaled r) (upper_end-edge r base wiring.tracks),
        );
  }

  -- contact
  touches : (e f : Element) (a b : Drawn) → Contains (elements wiring) e → Contains (elements wiring) f → Meets e f
      → Contains (drawn_by r base wiring.tracks e) a → Contains (drawn_by r base wiring.tracks f) b → Meet a.shape.rect b.shape.rect
  touches e f a b listed_e listed_f m member_a member_b =
      each_of (λ a. Meet a.shape.rect b.shape.rect) e listed_e
      (λ p member_p facts_p.
      each_of (λ b. Meet (extent_of r p.box) b.shape.rect) f listed_f
      (λ q member_q facts_q.
      scaled-meet r p.box q.box (centre r m.column) (line_at r base m.line)
      (facts_p.holds m.layer m.column m.line m.first) (facts_q.holds m.layer m.column m.line m.second))
      b member_b)
      a member_a

  pub drawing_contact : KeepContact r base wiring (drawing r base wiring)
  drawing_contact = record {
    all = λ e d listed member. Contains-flat_map (drawn_by r base wiring.tracks) (elements wiring) e d listed member;
    alone = λ d member.
        let found = Contains-flat_map_cases (drawn_by r base wiring.tracks) (elements wiring) d member in
        record { element = found.0; is_element = found.1; is_drawn = found.2 };
    nets = λ e d listed member. each_of (λ d. d.net ≡ net_of e) e listed (λ p member_p f. f.net) d member;
    shown = λ e layer column line listed covers. layer_shown r base wiring.tracks e layer column line covers;
    contact = touches;
  }
