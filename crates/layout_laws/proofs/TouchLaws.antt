use Rattle.std.proofs.Common.{◌≡◌, ◌≢◌, refl, sym, ◌∙◌, subst, inl, inr, ℕ, ◌*◌, ◌<◌, ◌≤◌, List, Contains, arith}
use Rattle.std.proofs.Math.Nat.{mul-le-mul}
use Rattle.std.proofs.lemmas.Bool.{cases_lt}
use Rattle.geom_core.specs.declared.layout.Shape.{Shape}
use Rattle.geom_core.specs.Rectangles.{Meet}
use Rattle.tech_rules.specs.Lengths.{IsWire}
use Rattle.tech_rules.specs.Rules.{RuleValues, ValidRules}
use Rattle.design_model.specs.Joined.{Conducts, on_one, cut_to_wire, wire_to_cut, Touch}
use Rattle.wire_geom.specs.Spaces.{NetsKeep, NetsApart}
use Rattle.wire_geom.specs.Widths.{IsCovered, AreWide}
use Rattle.wire_geom.specs.declared.drawn.Drawn.{Drawn}
use Rattle.layout_laws.proofs.Rectangles.{meet-turned, apart-parted, sides-meet, square-sides, cover-meets}

-- a length of some units is some
some-length : (r : RuleValues) → ValidRules r → (units : ℕ) → 1 ≤ units → 0 < 2 * units * r.grid.centi
some-length r valid units some =
    let twice : 1 ≤ 2 * units = omega arith in
    let fine : 4 ≤ r.grid.centi = valid.ranges.grid.centi.0 in
    let product : 1 * 4 ≤ 2 * units * r.grid.centi = mul-le-mul twice fine in
    omega arith

-- layers that conduct do so in either order
conducts-turned : (r : RuleValues) (a b : List ℕ) → Conducts r a b → Conducts r b a
conducts-turned r a b (on_one wire same) = on_one (subst (IsWire r) same wire) (sym same)
conducts-turned r a b (cut_to_wire cut wire) = wire_to_cut wire cut
conducts-turned r a b (wire_to_cut wire cut) = cut_to_wire cut wire

-- shapes touch in either order
pub touch-turned : (r : RuleValues) (s t : Shape) → Touch r s t → Touch r t s
touch-turned r s t touch = record { layers = conducts-turned r s.layer t.layer touch.layers; meet = meet-turned s.rect t.rect touch.meet }

module _ (r : RuleValues) (ds : List Drawn) (wide : AreWide r ds) where
  -- a wire meets itself
  wire-meets : (a : Drawn) → Contains ds a → IsWire r a.shape.layer → Meet a.shape.rect a.shape.rect
  wire-meets a has (inl horizontal) = sides-meet (2 * r.horizontal.width * r.grid.centi) a.shape.rect (wide.horizontal a has horizontal)
  wire-meets a has (inr vertical) = sides-meet (2 * r.vertical.width * r.grid.centi) a.shape.rect (wide.vertical a has vertical)

  -- a cut meets itself
  cut-meets : (a : Drawn) → Contains ds a → a.shape.layer ≡ r.cut.layer → Meet a.shape.rect a.shape.rect
  cut-meets a has cut =
      sides-meet (2 * r.cut.size * r.grid.centi) a.shape.rect (square-sides (2 * r.cut.size * r.grid.centi) a.shape.rect (wide.cut a has cut))

  -- a wire touches itself
  pub wire-touches : (a : Drawn) → Contains ds a → IsWire r a.shape.layer → Touch r a.shape a.shape
  wire-touches a has wire = record { layers = on_one wire refl; meet = wire-meets a has wire }

  -- a cut touches what covers it
  pub cut-touches : (a : Drawn) → Contains ds a → a.shape.layer ≡ r.cut.layer → (c : IsCovered r ds r.horizontal.layer a) → Touch r a.shape c.cover.shape
  cut-touches a has cut c = record {
    layers = cut_to_wire cut (inl c.on_layer);
    meet = meet-turned c.cover.shape.rect a.shape.rect
        (cover-meets (2 * r.cut.enclose * r.grid.centi) c.cover.shape.rect a.shape.rect a.shape.rect c.encloses (cut-meets a has cut));
  }

  module _ (valid : ValidRules r) (apart : NetsApart r ds) where
    -- rectangles of one layer that meet are of one net, if those of different nets keep a space there
    layer-net : (layer : List ℕ) (space : ℕ) → 1 ≤ space → NetsKeep r ds layer space → (a b : Drawn) → Contains ds a → Contains ds b
        → a.shape.layer ≡ layer → b.shape.layer ≡ layer → Meet a.shape.rect b.shape.rect → a.net ≡ b.net
    layer-net layer space some keep a b has_a has_b on_a on_b meet =
        let clash : a.net ≢ b.net → ⊥ = λ differ.
        apart-parted (2 * space * r.grid.centi) a.shape.rect b.shape.rect (some-length r valid space some) (keep a b has_a has_b on_a on_b differ) meet in
        elim (cases_lt a.net b.net) [
          | inl low ↦ absurd (clash (λ (e : a.net ≡ b.net). omega arith))
          | inr other ↦ elim (cases_lt b.net a.net) [ inl high ↦ absurd (clash (λ (e : a.net ≡ b.net). omega arith)) | inr another ↦ omega arith ]
        ]

    -- wires of one layer that meet are of one net
    wires-net : (a b : Drawn) → Contains ds a → Contains ds b → IsWire r a.shape.layer → a.shape.layer ≡ b.shape.layer → Meet a.shape.rect b.shape.rect → a.net ≡ b.net
    wires-net a b has_a has_b (inl horizontal) same meet =
        layer-net r.horizontal.layer r.horizontal.space valid.ranges.horizontal.space.0 apart.horizontal a b has_a has_b horizontal (sym same ∙ horizontal) meet
    wires-net a b has_a has_b (inr vertical) same meet =
        layer-net r.vertical.layer r.vertical.space valid.ranges.vertical.space.0 apart.vertical a b has_a has_b vertical (sym same ∙ vertical) meet

    -- a cut and a wire that meet are of one net, since what covers the cut on the wire's layer meets the wire
    cut-net : (a b : Drawn) → Contains ds a → Contains ds b → a.shape.layer ≡ r.cut.layer → IsWire r b.shape.layer → Meet a.shape.rect b.shape.rect → a.net ≡ b.net
    cut-net a b has_a has_b cut (inl horizontal) meet =
        let c = wide.in_horizontal a has_a cut in
        sym c.same_net ∙ wires-net c.cover b c.is_drawn has_b (inl c.on_layer) (c.on_layer ∙ sym horizontal)
        (cover-meets (2 * r.cut.enclose * r.grid.centi) c.cover.shape.rect a.shape.rect b.shape.rect c.encloses meet)
    cut-net a b has_a has_b cut (inr vertical) meet =
        let c = wide.in_vertical a has_a cut in
        sym c.same_net ∙ wires-net c.cover b c.is_drawn has_b (inr c.on_layer) (c.on_layer ∙ sym vertical)
        (cover-meets (2 * r.cut.enclose * r.grid.centi) c.cover.shape.rect a.shape.rect b.shape.rect c.encloses meet)

    -- rectangles that conduct to one another and meet are of one net
    conduct-net : (a b : Drawn) → Contains ds a → Contains ds b → Conducts r a.shape.layer b.shape.layer → Meet a.shape.rect b.shape.rect → a.net ≡ b.net
    conduct-net a b has_a has_b (on_one wire same) meet = wires-net a b has_a has_b wire same meet
    conduct-net a b has_a has_b (cut_to_wire cut wire) meet = cut-net a b has_a has_b cut wire meet
    conduct-net a b has_a has_b (wire_to_cut wire cut) meet = sym (cut-net b a has_b has_a cut wire (meet-turned a.shape.rect b.shape.rect meet))

    -- rectangles that touch are of one net
    pub touch-net : (a b : Drawn) → Contains ds a → Contains ds b → Touch r a.shape b.shape → a.net ≡ b.net
    touch-net a b has_a has_b touch = conduct-net a b has_a has_b touch.layers touch.meet
