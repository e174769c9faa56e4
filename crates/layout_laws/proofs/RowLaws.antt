use Rattle.std.proofs.Common.{◌≡◌, ◌≢◌, ◌≤◌, ◌⊎◌, inl, inr, sym, subst, ap, ◌∙◌, ℕ, ◌+◌, ◌*◌, ◌-◌, List, Contains, arith}
use Rattle.geom_core.specs.Extent.{Extent}
use Rattle.geom_core.specs.Rectangles.{HasSides, Apart, under, above as higher}
use Rattle.tech_rules.specs.Lengths.{length_in}
use Rattle.tech_rules.specs.Rules.{RuleValues, ValidRules}
use Rattle.wire_geom.specs.Edges.{StandsIn}
use Rattle.wire_geom.specs.Grid.{centre}
use Rattle.wire_geom.specs.Widths.{AreWide}
use Rattle.wire_geom.specs.Spaces.{NetsApart}
use Rattle.wire_geom.specs.declared.drawn.Drawn.{Drawn}
use Rattle.wire_geom.proofs.ScaleLaws.{scaled-order, scaled-gap}
use Rattle.layout_laws.proofs.Seats.{AreParted, FitsRow, IsSeat, LowerNet, Seat, UpperNet, Upright, UprightAt}
use Rattle.layout_laws.proofs.Strips.{Stays, Stay, Strip}
use Rattle.layout_laws.proofs.Uprights.{DrawsUpright, DrawUprights, wire_rect}
use Rattle.layout_laws.proofs.SeatLaws.{upright-fits, uprights-parted}
use Rattle.layout_laws.proofs.StripLaws.{columns-apart}

-- the drawing of an upright stands in its column
drawn-stands : (r : RuleValues) (base : ℕ) (seats : List Seat) (a : Drawn) → (it : DrawsUpright r base seats a) → StandsIn r it.column a
drawn-stands r base seats a it = record {
  on_layer = it.layer;
  left = ap (λ (e : Extent). e.x0) it.rect;
  right = ap (λ (e : Extent). e.x1) it.rect;
}

module _ (r : RuleValues) (valid : ValidRules r) (base height : ℕ) where
  -- a wire that is long enough is as wide and as long as its layer's rule says
  wire-wide : (low high column : ℕ) → low + r.vertical.width ≤ high → HasSides (length_in r r.vertical.width) (wire_rect r base low high column)
  wire-wide low high column long = record {
    across = scaled-gap r (centre r column - r.vertical.width) r.vertical.width (centre r column + r.vertical.width)
        (omega (arith, valid.pad_vertical, valid.column_vertical));
    up = scaled-gap r (2 * (base + low)) r.vertical.width (2 * (base + high)) (omega (arith, long));
  }

  -- two uprights that are parted in a column are of one net, or wires within them keep their space
  rects-apart : (u v : Upright) (column a b c e : ℕ) → b ≤ u.high → u.low ≤ a → e ≤ v.high → v.low ≤ c → AreParted r u v
      → (u.net ≡ v.net) ⊎ Apart (length_in r r.vertical.space) (wire_rect r base a b column) (wire_rect r base c e column)
  rects-apart u v column a b c e to_u from_u to_v from_v (inl same) = inl same
  rects-apart u v column a b c e to_u from_u to_v from_v (inr (inl below)) =
      inr (under (scaled-gap r (2 * (base + b)) r.vertical.space (2 * (base + c)) (omega (arith, below, to_u, from_v))))
  rects-apart u v column a b c e to_u from_u to_v from_v (inr (inr over)) =
      inr (higher (scaled-gap r (2 * (base + e)) r.vertical.space (2 * (base + a)) (omega (arith, over, to_v, from_u))))

  module _ (seats : List Seat) (are : (seat : Seat) → Contains seats seat → IsSeat r height seat) where
    fits-of : (a : Drawn) (it : DrawsUpright r base seats a) → FitsRow r height it.upright
    fits-of a it = upright-fits r valid height seats are 0 it.column it.upright it.at

    -- the wires of a row of different nets keep their space
    drawn-apart : (a b : Drawn) → DrawsUpright r base seats a → DrawsUpright r base seats b → a.net ≢ b.net → Apart (length_in r r.vertical.space) a.shape.rect b.shape.rect
    drawn-apart a b it other differ =
        elim (columns-apart r valid it.column other.column a b (drawn-stands r base seats a it) (drawn-stands r base seats b other)) [
          | inr apart ↦ apart
          | inl same ↦
              let here = subst (λ (c : ℕ). UprightAt other.upright c 0 seats) (sym same) other.at in
              elim (rects-apart it.upright other.upright it.column it.low it.high other.low other.high it.to it.from other.to other.from
              (uprights-parted r valid height seats are 0 it.column it.upright other.upright it.at here)) [
                | inl one ↦ absurd (differ (it.net ∙ one ∙ sym other.net))
                | inr apart ↦
                    subst (λ (e : Extent). Apart (length_in r r.vertical.space) e b.shape.rect) (sym it.rect)
                    (subst (λ (e : Extent). Apart (length_in r r.vertical.space) (wire_rect r base it.low it.high it.column) e)
                    (ap (λ (c : ℕ). wire_rect r base other.low other.high c) same ∙ sym other.rect) apart)
              ]
        ]

    -- each wire comes to the row's edges only over entries of its net
    drawn-stays : (a : Drawn) → DrawsUpright r base seats a
        → Stays r (2 * base) (2 * (base + height)) (LowerNet seats) (UpperNet height seats) r.vertical.space a
    drawn-stays a it =
        let low = ap (λ (e : Extent). e.y0) it.rect in
        let high = ap (λ (e : Extent). e.y1) it.rect in
        let u = it.upright in
        let fits = fits-of a it in
        record {
          from = rw low (scaled-order r (2 * base) (2 * (base + it.low)) (omega arith));
          to = rw high (scaled-order r (2 * (base + it.high)) (2 * (base + height)) (omega (arith, fits.within, it.to)));
          below = elim fits.below [
            | inl at_lower ↦ inr (record {
              column = it.column;
              stands = drawn-stands r base seats a it;
              has_entry = record { upright = u; at = it.at; comes = at_lower; of_net = sym it.net };
            })
            | inr far ↦ inl (rw low (scaled-gap r (2 * base) r.vertical.space (2 * (base + it.low)) (omega (arith, far, it.from))))
          ];
          above = elim fits.above [
            | inl at_upper ↦ inr (record {
              column = it.column;
              stands = drawn-stands r base seats a it;
              has_entry = record { upright = u; at = it.at; comes = at_upper; of_net = sym it.net };
            })
            | inr far ↦ inl (rw high (scaled-gap r (2 * (base + it.high)) r.vertical.space (2 * (base + height)) (omega (arith, far, it.to))))
          ];
        }

    module _ (ds : List Drawn) (drawn : DrawUprights r base seats ds) where
      -- a row has no horizontal wires and no cuts
      no_horizontal : (a : Drawn) → Contains ds a → a.shape.layer ≡ r.horizontal.layer → ⊥
      no_horizontal a member on = valid.layers.horizontal_vertical (sym on ∙ (drawn a member (inl (inl on))).layer)

      no_cut : (a : Drawn) → Contains ds a → a.shape.layer ≡ r.cut.layer → ⊥
      no_cut a member on = valid.layers.vertical_cut (sym (drawn a member (inr on)).layer ∙ on)

      row_wide : AreWide r ds
      row_wide = record {
        horizontal = λ a member on. absurd (no_horizontal a member on);
        vertical = λ a member on.
            let it = drawn a member (inl (inr on)) in
            subst (HasSides (length_in r r.vertical.width)) (sym it.rect) (wire-wide it.low it.high it.column it.long);
        cut = λ a member on. absurd (no_cut a member on);
        in_horizontal = λ a member on. absurd (no_cut a member on);
        in_vertical = λ a member on. absurd (no_cut a member on);
      }

      row_apart : NetsApart r ds
      row_apart = record {
        horizontal = λ a b member_a member_b on_a on_b differ. absurd (no_horizontal a member_a on_a);
        vertical = λ a b member_a member_b on_a on_b differ.
            drawn-apart a b (drawn a member_a (inl (inr on_a))) (drawn b member_b (inl (inr on_b))) differ;
        cut = λ a b member_a member_b on_a on_b differ. absurd (no_cut a member_a on_a);
      }

      row_stay : Stay r (2 * base) (2 * (base + height)) (LowerNet seats) (UpperNet height seats) ds
      row_stay = record {
        horizontal = λ a member on. absurd (no_horizontal a member on);
        vertical = λ a member on. drawn-stays a (drawn a member (inl (inr on)));
        cut = λ a member on. absurd (no_cut a member on);
      }

      -- a row is a strip between its edges
      pub row-strip : Strip r (2 * base) (2 * (base + height)) (LowerNet seats) (UpperNet height seats) ds
      row-strip = record { wide = row_wide; apart = row_apart; stay = row_stay }
