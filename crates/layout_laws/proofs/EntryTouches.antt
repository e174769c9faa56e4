use Rattle.std.proofs.Common.{◌≡◌, inl, inr, ap, sym, ◌∙◌, subst, ℕ, suc, ◌+◌, ◌*◌, ◌<◌, ◌≤◌, ◌-◌, Contains, arith}
use Rattle.std.proofs.lemmas.Int.{ints}
use Rattle.std.specs.Prelude.{ℤ, ◌≤ℤ◌}
use Rattle.geom_core.specs.Extent.{Extent}
use Rattle.tech_rules.specs.Rules.{RuleValues, ValidRules}
use Rattle.design_model.specs.Joined.{on_one, Touch}
use Rattle.wire_geom.specs.Edges.{StandsIn}
use Rattle.wire_geom.specs.Grid.{centre, line_at, scaled}
use Rattle.wire_geom.specs.declared.drawn.Drawn.{Drawn}
use Rattle.wire_geom.proofs.DrawingLaws.{drawing_wide, drawing_entries}
use Rattle.wire_geom.proofs.ScaleLaws.{scaled-order}
use Rattle.layout_laws.proofs.Plans.{Plan, row_base, channel_drawn, IsPlan}
use Rattle.layout_laws.proofs.Threads.{EntersBelow, EntersAbove}

-- the sides of a wire in a column are in order
column-wide : (r : RuleValues) (column : ℕ) → scaled r (centre r column - r.vertical.width) ≤ℤ scaled r (centre r column + r.vertical.width)
column-wide r column = scaled-order r (centre r column - r.vertical.width) (centre r column + r.vertical.width) (omega arith)

-- two vertical wires of one column touch where their heights share a point
pub wires-touch : (r : RuleValues) (column : ℕ) (a b : Drawn) → StandsIn r column a → StandsIn r column b
    → a.shape.rect.y0 ≤ℤ b.shape.rect.y1 → b.shape.rect.y0 ≤ℤ a.shape.rect.y1 → Touch r a.shape b.shape
wires-touch r column a b in_a in_b low high =
    let wide = column-wide r column in
    record {
      layers = on_one (inr in_a.on_layer) (in_a.on_layer ∙ sym in_b.on_layer);
      meet = record {
        left = subst (λ (x : ℤ). x ≤ℤ b.shape.rect.x1) (sym in_a.left)
            (subst (λ (x : ℤ). scaled r (centre r column - r.vertical.width) ≤ℤ x) (sym in_b.right) wide);
        right = subst (λ (x : ℤ). x ≤ℤ a.shape.rect.x1) (sym in_b.left)
            (subst (λ (x : ℤ). scaled r (centre r column - r.vertical.width) ≤ℤ x) (sym in_a.right) wide);
        low = low;
        high = high;
      };
    }

-- so they do where the one ends at a height at which the other begins
stands-touch : (r : RuleValues) (column : ℕ) (edge : ℤ) (low high : Drawn) → StandsIn r column low → StandsIn r column high
    → low.shape.rect.y0 ≤ℤ low.shape.rect.y1 → high.shape.rect.y0 ≤ℤ high.shape.rect.y1 → low.shape.rect.y1 ≡ edge → high.shape.rect.y0 ≡ edge
    → Touch r low.shape high.shape
stands-touch r column edge low high in_low in_high up_low up_high ends begins =
    wires-touch r column low high in_low in_high (omega (arith, ints, up_low, up_high, ends, begins)) (omega (arith, ints, up_low, up_high, ends, begins))

module _ (r : RuleValues) (valid : ValidRules r) (plan : Plan) (is : IsPlan r plan) where
  -- the ends of a wire of a channel are in order
  channel-up : (k : ℕ) → k ≤ plan.rows → (a : Drawn) → Contains (channel_drawn r plan k) a → a.shape.layer ≡ r.vertical.layer → a.shape.rect.y0 ≤ℤ a.shape.rect.y1
  channel-up k within a member on_layer =
      let sides = (drawing_wide (plan.pins k) (plan.wiring k) (is.wired k within) r valid (plan.base k)).vertical a member on_layer in
      let up = sides.up in
      omega (arith, ints)

  -- and those of a wire of a row
  row-up : (k : ℕ) → k < plan.rows → (a : Drawn) → Contains (plan.row k) a → a.shape.layer ≡ r.vertical.layer → a.shape.rect.y0 ≤ℤ a.shape.rect.y1
  row-up k within a member on_layer =
      let it = is.drawn k within a member (inl (inr on_layer)) in
      let low = ap (λ (e : Extent). e.y0) it.rect in
      let high = ap (λ (e : Extent). e.y1) it.rect in
      let base : ℕ = row_base r plan k in
      let up = scaled-order r (2 * (base + it.low)) (2 * (base + it.high)) (omega (arith, it.long)) in
      subst (λ (x : ℤ). x ≤ℤ a.shape.rect.y1) (sym low) (subst (λ (x : ℤ). scaled r (2 * (base + it.low)) ≤ℤ x) (sym high) up)

  -- what enters the channel below touches a wire of its net there
  pub touch_below : (k : ℕ) → k < plan.rows → (a : Drawn) → EntersBelow r plan k a
      → (w : Drawn) × Contains (channel_drawn r plan k) w × (w.net ≡ a.net) × Touch r w.shape a.shape
  touch_below k within a enters =
      let below : k ≤ plan.rows = omega (arith, within) in
      let found = (drawing_entries (plan.pins k) (plan.wiring k) (is.wired k below) r valid (plan.base k)).top enters.column a.net enters.has_entry in
      let edge : ℤ = scaled r (2 * row_base r plan k) in (
        found.0,
        found.1,
        found.2,
        stands-touch r enters.column edge found.0 a found.3 enters.stands (channel-up k below found.0 found.1 found.3.on_layer)
            (row-up k within a enters.listed enters.stands.on_layer) found.4 enters.at_edge,
      )

  -- and what enters the channel above
  pub touch_above : (k : ℕ) → k < plan.rows → (a : Drawn) → EntersAbove r plan k a
      → (w : Drawn) × Contains (channel_drawn r plan (suc k)) w × (w.net ≡ a.net) × Touch r a.shape w.shape
  touch_above k within a enters =
      let above : suc k ≤ plan.rows = omega (arith, within) in
      let found = (drawing_entries (plan.pins (suc k)) (plan.wiring (suc k)) (is.wired (suc k) above) r valid (plan.base (suc k))).bottom enters.column a.net enters.has_entry in
      let edge : ℤ = scaled r (2 * (row_base r plan k + plan.height k)) in
      let next = is.next k within in
      let floor : line_at r (plan.base (suc k)) 0 ≡ 2 * (row_base r plan k + plan.height k) = omega (arith, next) in (
        found.0,
        found.1,
        found.2,
        stands-touch r enters.column edge a found.0 enters.stands found.3 (row-up k within a enters.listed enters.stands.on_layer)
            (channel-up (suc k) above found.0 found.1 found.3.on_layer) enters.at_edge (found.4 ∙ ap (scaled r) floor),
      )
