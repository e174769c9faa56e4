use Rattle.std.proofs.Common.{◌≡◌, ◌⊎◌, inl, inr, refl, ℕ, ◌+◌, ◌*◌, ◌-◌, ◌≤◌, ◌<◌, List, [], ◌∷◌, All, Contains, arith}
use Rattle.std.proofs.lemmas.List.Elements.{All-nil, All-cons}
use Rattle.channel_model.specs.declared.wiring.Segment.TheVariants.{Across, Along}
use Rattle.channel_model.specs.declared.wiring.Via.{Via}
use Rattle.channel_model.specs.Elements.{Layer, Element, segment, via, net_of, Covers}
use Rattle.channel_model.specs.Pins.{Pins}
use Rattle.channel_model.specs.Wired.{IsOnGrid, KeepsEdges}
use Rattle.tech_rules.specs.Rules.{RuleValues, ValidRules, pad}
use Rattle.wire_geom.specs.Boxes.{Box, across_box, along_box, square_box}
use Rattle.wire_geom.specs.Drawing.{Mask, on_horizontal, on_vertical, on_cut, Piece, pieces_of}
use Rattle.wire_geom.specs.Edges.{bottom_entry, top_entry}
use Rattle.wire_geom.specs.Grid.{centre, line_at}
use Rattle.wire_geom.proofs.BoxLaws.{Inside, Holds}
use Rattle.wire_geom.proofs.EndLaws.{LowerFacts, UpperFacts, lower_facts, upper_facts}
use Rattle.wire_geom.proofs.GridLaws.{space_of, reach_of, halo, centre-order, line-order, line-step}
use Rattle.wire_geom.proofs.PatchLaws.{Lies, layer_of, patch_of, IsPoint, covered}

-- a box with sides of at least d, and a square box
pub record HasRoom (d : ℕ) (b : Box) : Type 0 where
  pub across : b.x0 + d ≤ b.x1
  pub up : b.y0 + d ≤ b.y1

pub record IsSquareBox (d : ℕ) (b : Box) : Type 0 where
  pub across : b.x0 + d ≡ b.x1
  pub up : b.y0 + d ≡ b.y1

abbrev pub IsWide : RuleValues → Mask → Box → Type 0
IsWide r on_horizontal b = HasRoom (2 * r.horizontal.width) b
IsWide r on_vertical b = HasRoom (2 * r.vertical.width) b
IsWide r on_cut b = IsSquareBox (2 * r.cut.size) b

-- a vertical wire in a column in which its net has an entry
pub record Stands (r : RuleValues) (entry : ℕ → ℕ → Type 0) (p : Piece) : Type 0 where
  pub column : ℕ
  pub mask : p.mask ≡ on_vertical
  pub left : p.box.x0 ≡ centre r column - r.vertical.width
  pub right : p.box.x1 ≡ centre r column + r.vertical.width
  pub has_entry : entry column p.net

-- a piece keeps its space from the edges, or ends there over an entry
pub record Stays (r : RuleValues) (floor ceiling : ℕ) (lower upper : ℕ → ℕ → Type 0) (p : Piece) : Type 0 where
  pub from : floor ≤ p.box.y0
  pub to : p.box.y1 ≤ ceiling
  pub below : (floor + 2 * space_of r p.mask ≤ p.box.y0) ⊎ ((p.box.y0 ≡ floor) × Stands r lower p)
  pub above : (p.box.y1 + 2 * space_of r p.mask ≤ ceiling) ⊎ ((p.box.y1 ≡ ceiling) × Stands r upper p)

-- a piece of its net that holds a box with so much around it
pub record Holder (d : ℕ) (ps : List Piece) (mask : Mask) (p : Piece) : Type 0 where
  pub piece : Piece
  pub listed : Contains ps piece
  pub on_mask : piece.mask ≡ mask
  pub same_net : piece.net ≡ p.net
  pub left : piece.box.x0 + d ≤ p.box.x0
  pub low : piece.box.y0 + d ≤ p.box.y0
  pub right : p.box.x1 + d ≤ piece.box.x1
  pub high : p.box.y1 + d ≤ piece.box.y1

-- what each piece of an element keeps
pub record PieceFacts (pins : Pins) (r : RuleValues) (base tracks : ℕ) (e : Element) (p : Piece) : Type 0 where
  pub net : p.net ≡ net_of e
  pub lies : Lies e (layer_of p.mask)
  pub inside : Inside p.box (halo r base (reach_of r p.mask) (patch_of e))
  pub holds : (layer : Layer) (x y : ℕ) → Covers e layer x y → Holds p.box (centre r x) (line_at r base y)
  pub wide : IsWide r p.mask p.box
  pub stays : Stays r (line_at r base 0) (line_at r base (tracks + 1)) (bottom_entry pins) (top_entry pins) p
  pub horizontal_pad : p.mask ≡ on_cut → Holder (2 * r.cut.enclose) (pieces_of r base tracks e) on_horizontal p
  pub vertical_pad : p.mask ≡ on_cut → Holder (2 * r.cut.enclose) (pieces_of r base tracks e) on_vertical p

module _ (pins : Pins) (r : RuleValues) (valid : ValidRules r) (base columns tracks : ℕ) where
  abbrev F : Element → Piece → Type 0
  F e p = PieceFacts pins r base tracks e p

  -- a box holds the points of an element whose patch's corners it holds
  holds_points : (e : Element) (b : Box) → b.x0 ≤ centre r (patch_of e).from → centre r (patch_of e).to ≤ b.x1
      → b.y0 ≤ line_at r base (patch_of e).low → line_at r base (patch_of e).high ≤ b.y1
      → (layer : Layer) (x y : ℕ) → Covers e layer x y → Holds b (centre r x) (line_at r base y)
  holds_points e b left right low high layer x y covers =
      let p : IsPoint (patch_of e) x y = covered e layer x y covers in
      record {
        left = omega (arith, centre-order r (patch_of e).from x p.from);
        low = omega (arith, line-order r base (patch_of e).low y p.low);
        right = omega (arith, centre-order r x (patch_of e).to p.to);
        high = omega (arith, line-order r base y (patch_of e).high p.high);
      }

  across_facts : (net column low high : ℕ) → IsOnGrid columns tracks (segment (Across net column low high)) → 0 < net
      → KeepsEdges pins tracks (segment (Across net column low high))
      → F (segment (Across net column low high)) (record { mask = on_vertical; box = across_box r base tracks column low high; net = net })
  across_facts net column low high grid positive edges =
      let l : LowerFacts r base low = lower_facts r valid base low in
      let u : UpperFacts r base tracks high = upper_facts r valid base tracks high grid.2 in
      let narrow : r.vertical.width ≤ pad r = valid.pad_vertical in
      let room : pad r + r.vertical.space ≤ r.grid.column = valid.column_vertical in
      let pitch : pad r + r.vertical.space ≤ r.grid.track = valid.track_vertical in
      let long : line_at r base low + 2 * r.grid.track ≤ line_at r base high = line-step r base low high grid.1 in
      record {
        net = refl;
        lies = tt;
        inside = record { left = omega arith; low = l.inside; right = omega arith; high = u.inside };
        holds = holds_points (segment (Across net column low high)) (across_box r base tracks column low high) (omega arith) (omega arith) l.holds u.holds;
        wide = record { across = omega arith; up = omega (arith, l.holds, u.holds) };
        stays = record {
          from = l.from;
          to = u.to;
          below = elim l.below [
            | inl far ↦ inl far
            | inr at ↦ inr (at.1, record { column = column; mask = refl; left = refl; right = refl; has_entry = (positive, edges.0 at.0) })
          ];
          above = elim u.above [
            | inl far ↦ inl far
            | inr at ↦ inr (at.1, record { column = column; mask = refl; left = refl; right = refl; has_entry = (positive, edges.1 at.0) })
          ];
        };
        horizontal_pad = λ no. cc;
        vertical_pad = λ no. cc;
      }

  along_facts : (net track from to : ℕ) → IsOnGrid columns tracks (segment (Along net track from to))
      → F (segment (Along net track from to)) (record { mask = on_horizontal; box = along_box r base track from to; net = net })
  along_facts net track from to grid =
      let narrow : r.horizontal.width ≤ pad r = valid.pad_horizontal in
      let room : pad r + r.horizontal.space ≤ r.grid.column = valid.column_horizontal in
      let pitch : pad r + r.horizontal.space ≤ r.grid.track = valid.track_horizontal in
      let order : centre r from ≤ centre r to = centre-order r from to grid.2 in
      let floor : line_at r base 0 + 2 * r.grid.track ≤ line_at r base track = line-step r base 0 track grid.0 in
      let ceiling : line_at r base track + 2 * r.grid.track ≤ line_at r base (tracks + 1) = line-step r base track (tracks + 1) (omega (arith, grid.1)) in
      record {
        net = refl;
        lies = tt;
        inside = record { left = omega arith; low = omega arith; right = omega arith; high = omega arith };
        holds = holds_points (segment (Along net track from to)) (along_box r base track from to) (omega arith) (omega arith) (omega arith) (omega arith);
        wide = record { across = omega arith; up = omega arith };
        stays = record { from = omega arith; to = omega arith; below = inl (omega arith); above = inl (omega arith) };
        horizontal_pad = λ no. cc;
        vertical_pad = λ no. cc;
      }

  -- a piece of a via, on a layer of which the rules keep the space of such squares
  square_inside : (mask : Mask) (v : Via)
      → Inside (square_box r base (reach_of r mask) v.column v.track) (halo r base (reach_of r mask) (patch_of (via v)))
  square_inside mask v = record { left = omega arith; low = omega arith; right = omega arith; high = omega arith }

  square_holds : (v : Via) (size : ℕ) (layer : Layer) (x y : ℕ) → Covers (via v) layer x y
      → Holds (square_box r base size v.column v.track) (centre r x) (line_at r base y)
  square_holds v size = holds_points (via v) (square_box r base size v.column v.track) (omega arith) (omega arith) (omega arith) (omega arith)

  square_stays : (mask : Mask) (v : Via) (size : ℕ) → size + space_of r mask ≤ r.grid.track → 0 < v.track → v.track ≤ tracks
      → Stays r (line_at r base 0) (line_at r base (tracks + 1)) (bottom_entry pins) (top_entry pins)
      (record { mask = mask; box = square_box r base size v.column v.track; net = v.net })
  square_stays mask v size pitch positive within =
      let floor : line_at r base 0 + 2 * r.grid.track ≤ line_at r base v.track = line-step r base 0 v.track positive in
      let ceiling : line_at r base v.track + 2 * r.grid.track ≤ line_at r base (tracks + 1) = line-step r base v.track (tracks + 1) (omega arith) in
      record { from = omega arith; to = omega arith; below = inl (omega arith); above = inl (omega arith) }

  square_wide : (v : Via) (size width : ℕ) → width ≤ size → size ≤ r.grid.column → size ≤ r.grid.track → 0 < v.track
      → HasRoom (2 * width) (square_box r base size v.column v.track)
  square_wide v size width narrow column track positive =
      let floor : line_at r base 0 + 2 * r.grid.track ≤ line_at r base v.track = line-step r base 0 v.track positive in
      record { across = omega arith; up = omega arith }

  abbrev pad_on : Mask → Via → Piece
  pad_on mask v = record { mask = mask; box = square_box r base (pad r) v.column v.track; net = v.net }

  pad_holds : (mask : Mask) (v : Via) → Contains (pieces_of r base tracks (via v)) (pad_on mask v) → 0 < v.track
      → Holder (2 * r.cut.enclose) (pieces_of r base tracks (via v)) mask
      (record { mask = on_cut; box = square_box r base r.cut.size v.column v.track; net = v.net })
  pad_holds mask v listed positive =
      let floor : line_at r base 0 + 2 * r.grid.track ≤ line_at r base v.track = line-step r base 0 v.track positive in
      let room : pad r + r.vertical.space ≤ r.grid.column = valid.column_vertical in
      let pitch : pad r + r.vertical.space ≤ r.grid.track = valid.track_vertical in
      record {
        piece = pad_on mask v;
        listed = listed;
        on_mask = refl;
        same_net = refl;
        left = omega arith;
        low = omega arith;
        right = omega arith;
        high = omega arith;
      }

  horizontal_pad_facts : (v : Via) → IsOnGrid columns tracks (via v) → F (via v) (pad_on on_horizontal v)
  horizontal_pad_facts v grid =
      record {
        net = refl;
        lies = tt;
        inside = square_inside on_horizontal v;
        holds = square_holds v (pad r);
        wide = square_wide v (pad r) r.horizontal.width valid.pad_horizontal (omega (arith, valid.column_horizontal)) (omega (arith, valid.track_horizontal)) grid.1;
        stays = square_stays on_horizontal v (pad r) valid.track_horizontal grid.1 grid.2;
        horizontal_pad = λ no. cc;
        vertical_pad = λ no. cc;
      }

  vertical_pad_facts : (v : Via) → IsOnGrid columns tracks (via v) → F (via v) (pad_on on_vertical v)
  vertical_pad_facts v grid =
      record {
        net = refl;
        lies = tt;
        inside = square_inside on_vertical v;
        holds = square_holds v (pad r);
        wide = square_wide v (pad r) r.vertical.width valid.pad_vertical (omega (arith, valid.column_vertical)) (omega (arith, valid.track_vertical)) grid.1;
        stays = square_stays on_vertical v (pad r) valid.track_vertical grid.1 grid.2;
        horizontal_pad = λ no. cc;
        vertical_pad = λ no. cc;
      }

  cut_facts : (v : Via) → IsOnGrid columns tracks (via v) → F (via v) (record { mask = on_cut; box = square_box r base r.cut.size v.column v.track; net = v.net })
  cut_facts v grid =
      let room : r.cut.size + r.cut.space ≤ r.grid.column = valid.column_cut in
      let pitch : r.cut.size + r.cut.space ≤ r.grid.track = valid.track_cut in
      let floor : line_at r base 0 + 2 * r.grid.track ≤ line_at r base v.track = line-step r base 0 v.track grid.1 in
      record {
        net = refl;
        lies = tt;
        inside = square_inside on_cut v;
        holds = square_holds v r.cut.size;
        wide = record { across = omega arith; up = omega arith };
        stays = square_stays on_cut v r.cut.size valid.track_cut grid.1 grid.2;
        horizontal_pad = λ is. pad_holds on_horizontal v (0, omega arith, refl) grid.1;
        vertical_pad = λ is. pad_holds on_vertical v (1, omega arith, refl) grid.1;
      }

  -- what each piece of an element keeps
  pub piece_facts : (e : Element) → IsOnGrid columns tracks e → 0 < net_of e → KeepsEdges pins tracks e → All (F e) (pieces_of r base tracks e)
  piece_facts (segment (Across net column low high)) grid positive edges =
      All-cons (F (segment (Across net column low high))) (record { mask = on_vertical; box = across_box r base tracks column low high; net = net }) []
      (across_facts net column low high grid positive edges) (All-nil (F (segment (Across net column low high))))
  piece_facts (segment (Along net track from to)) grid positive edges =
      All-cons (F (segment (Along net track from to))) (record { mask = on_horizontal; box = along_box r base track from to; net = net }) []
      (along_facts net track from to grid) (All-nil (F (segment (Along net track from to))))
  piece_facts (via v) grid positive edges =
      let cut : Piece = record { mask = on_cut; box = square_box r base r.cut.size v.column v.track; net = v.net } in
      All-cons (F (via v)) (pad_on on_horizontal v) (pad_on on_vertical v ∷ (cut ∷ [])) (horizontal_pad_facts v grid)
      (All-cons (F (via v)) (pad_on on_vertical v) (cut ∷ []) (vertical_pad_facts v grid)
      (All-cons (F (via v)) cut [] (cut_facts v grid) (All-nil (F (via v)))))
