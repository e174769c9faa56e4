use Rattle.std.proofs.Common.{◌≡◌, ap, sym, ◌∙◌, subst, inl, inr, ℕ, List, Contains, Some}
use Rattle.std.proofs.lemmas.Option.{same_Some}
use Rattle.std.specs.Prelude.{◌↔◌, slice_get}
use Rattle.geom_core.specs.declared.layout.Layout.{Layout}
use Rattle.geom_core.specs.declared.layout.Shape.{Shape}
use Rattle.geom_core.specs.Rectangles.{HasSides, IsSquare, Apart}
use Rattle.tech_rules.specs.Lengths.{length_in, IsWire}
use Rattle.tech_rules.specs.Rules.{RuleValues, ValidRules}
use Rattle.tech_rules.specs.Wide.{Wide, IsCovered}
use Rattle.design_model.specs.Good.{KeepSpace, Spaced}
use Rattle.design_model.specs.Joined.{Touch, Draws, Neighbours, touching, of_one_terminal, Joined, here, step, DrawsPin, PinsJoined}
use Rattle.design_model.specs.Netlist.{Netlist}
use Rattle.design_model.specs.declared.design.Pin.{Pin}
use Rattle.wire_geom.specs.Spaces.{NetsKeep}
use Rattle.wire_geom.specs.Widths.{IsCovered as IsDrawnCovered}
use Rattle.wire_geom.specs.declared.drawn.Drawn.{Drawn}
use Rattle.layout_laws.proofs.Chains.{AreChained, itself, by_touch, by_tie}
use Rattle.layout_laws.proofs.Labels.{IsLabelled}
use Rattle.layout_laws.proofs.Uprights.{IsWired}
use Rattle.layout_laws.proofs.TouchLaws.{wire-touches, cut-touches, touch-net, touch-turned}
use Rattle.std_laws.proofs.Members.{map-member, get-contains, map-cases, member-place}
use Rattle.std_laws.proofs.Places.{map-get, map-at}

module _ (r : RuleValues) (d : Netlist) (l : Layout) (ds : List Drawn) (net_at : ℕ → ℕ → ℕ) (labelled : IsLabelled r d l ds net_at) where
  -- where a rectangle stands, its shape does
  shape-at : (i : ℕ) (a : Drawn) → slice_get ds i ≡ Some a → slice_get l.shapes i ≡ Some a.shape
  shape-at i a at = ap (λ (shapes : List Shape). slice_get shapes i) labelled.pins.shapes ∙ map-at (λ (x : Drawn). x.shape) ds i a at

  -- where a shape stands, its rectangle does
  drawn-at : (i : ℕ) (s : Shape) → slice_get l.shapes i ≡ Some s → (a : Drawn) × (slice_get ds i ≡ Some a) × (a.shape ≡ s)
  drawn-at i s at = map-get (λ (x : Drawn). x.shape) ds i s (ap (λ (shapes : List Shape). slice_get shapes i) (sym labelled.pins.shapes) ∙ at)

  -- each shape is that of a rectangle
  drawn-of : (s : Shape) → Contains l.shapes s → (a : Drawn) × Contains ds a × (a.shape ≡ s)
  drawn-of s has = map-cases (λ (x : Drawn). x.shape) ds s (subst (λ (shapes : List Shape). Contains shapes s) labelled.pins.shapes has)

  -- each rectangle's shape is in the layout
  shape-of : (a : Drawn) → Contains ds a → Contains l.shapes a.shape
  shape-of a has = subst (λ (shapes : List Shape). Contains shapes a.shape) (sym labelled.pins.shapes) (map-member (λ (x : Drawn). x.shape) ds a has)

  -- what covers a cut among the rectangles covers it among the shapes
  covered : (layer : List ℕ) (a : Drawn) → IsDrawnCovered r ds layer a → IsCovered r l layer a.shape
  covered layer a c = record { cover = c.cover.shape; is_shape = shape-of c.cover c.is_drawn; on_layer = c.on_layer; encloses = c.encloses }

  -- the shapes are wide
  is-wide : Wide r l
  is-wide = record {
    horizontal = λ s has layer.
        let a = drawn-of s has in
        subst (λ (t : Shape). HasSides (length_in r r.horizontal.width) t.rect) a.2 (labelled.wide.horizontal a.0 a.1 (ap (λ (t : Shape). t.layer) a.2 ∙ layer));
    vertical = λ s has layer.
        let a = drawn-of s has in
        subst (λ (t : Shape). HasSides (length_in r r.vertical.width) t.rect) a.2 (labelled.wide.vertical a.0 a.1 (ap (λ (t : Shape). t.layer) a.2 ∙ layer));
    cut = λ s has layer.
        let a = drawn-of s has in
        subst (λ (t : Shape). IsSquare (length_in r r.cut.size) t.rect) a.2 (labelled.wide.cut a.0 a.1 (ap (λ (t : Shape). t.layer) a.2 ∙ layer));
    in_horizontal = λ s has layer.
        let a = drawn-of s has in
        subst (IsCovered r l r.horizontal.layer) a.2 (covered r.horizontal.layer a.0 (labelled.wide.in_horizontal a.0 a.1 (ap (λ (t : Shape). t.layer) a.2 ∙ layer)));
    in_vertical = λ s has layer.
        let a = drawn-of s has in
        subst (IsCovered r l r.vertical.layer) a.2 (covered r.vertical.layer a.0 (labelled.wide.in_vertical a.0 a.1 (ap (λ (t : Shape). t.layer) a.2 ∙ layer)));
  }

  -- rectangles that touch stand at numbers of neighbours
  touch-neighbours : (i j : ℕ) (a b : Drawn) → slice_get ds i ≡ Some a → slice_get ds j ≡ Some b → Touch r a.shape b.shape → Neighbours r d l i j
  touch-neighbours i j a b at_i at_j touch = touching a.shape b.shape (shape-at i a at_i) (shape-at j b at_j) touch

  -- numbers of one rectangle are joined: a wire touches itself, and a cut and itself touch what covers it
  same-joined : (i j : ℕ) (a : Drawn) → slice_get ds i ≡ Some a → slice_get ds j ≡ Some a → IsWired r a → Joined r d l j i
  same-joined i j a at_i at_j (inl wire) =
      step j (touch-neighbours i j a a at_i at_j (wire-touches r ds labelled.wide a (get-contains ds i a at_i) wire)) here
  same-joined i j a at_i at_j (inr cut) =
      let has = get-contains ds i a at_i in
      let c = labelled.wide.in_horizontal a has cut in
      let k = member-place ds c.cover c.is_drawn in
      let touch = cut-touches r ds labelled.wide a has cut c in
      step k.0 (touch-neighbours i k.0 a c.cover at_i k.1 touch)
      (step j (touch-neighbours k.0 j c.cover a k.1 at_j (touch-turned r a.shape c.cover.shape touch)) here)

  -- the drawing of a terminal is a vertical wire
  drawing-wire : (cell instance terminal i : ℕ) (a : Drawn) → Draws d l cell instance terminal i → slice_get ds i ≡ Some a → IsWire r a.shape.layer
  drawing-wire cell instance terminal i a draws at =
      let b = labelled.pins.drawn cell instance terminal i draws in
      inr (ap (λ (x : Drawn). x.shape.layer) (same_Some a b.0 (sym at ∙ b.1)) ∙ b.2)

  -- and of the net of its terminal
  drawing-net : (cell instance terminal i : ℕ) (a : Drawn) → Draws d l cell instance terminal i → slice_get ds i ≡ Some a → a.net ≡ net_at instance terminal
  drawing-net cell instance terminal i a draws at =
      let b = labelled.pins.drawn cell instance terminal i draws in
      ap (λ (x : Drawn). x.net) (same_Some a b.0 (sym at ∙ b.1)) ∙ b.3

  -- rectangles that are chained stand at numbers that are joined
  chained-joined : (b a : Drawn) → AreChained r d l ds b a → (i j : ℕ) → slice_get ds i ≡ Some a → slice_get ds j ≡ Some b → IsWired r b → Joined r d l j i
  chained-joined b a itself i j at_i at_j wired = same-joined i j a at_i at_j wired
  chained-joined b a (by_touch c has touch more) i j at_i at_j wired =
      let k = member-place ds c has in
      step k.0 (touch-neighbours i k.0 a c at_i k.1 touch) (chained-joined b c more k.0 j k.1 at_j wired)
  chained-joined b a (by_tie c tie more) i j at_i at_j wired =
      let wire = drawing-wire tie.cell tie.instance tie.terminal tie.from a tie.first tie.at_from in
      step tie.from (touch-neighbours i tie.from a a at_i tie.at_from (wire-touches r ds labelled.wide a (get-contains ds i a at_i) wire))
      (step tie.to (of_one_terminal tie.cell tie.instance tie.terminal tie.first tie.second) (chained-joined b c more tie.to j tie.at_to at_j wired))

  -- wires and cuts of one net are joined
  net-joined : (i j : ℕ) (a b : Drawn) → slice_get ds i ≡ Some a → slice_get ds j ≡ Some b → IsWired r a → IsWired r b → a.net ≡ b.net → Joined r d l j i
  net-joined i j a b at_i at_j wired_a wired_b same =
      chained-joined b a (labelled.chained a b (get-contains ds i a at_i) (get-contains ds j b at_j) wired_a wired_b same) i j at_i at_j wired_b

  -- shapes of a layer of wires or cuts that are not joined keep the space that different nets keep
  keeps : (layer : List ℕ) (space : ℕ) → ((a : Drawn) → a.shape.layer ≡ layer → IsWired r a) → NetsKeep r ds layer space → KeepSpace r d l layer space
  keeps layer space wired keep i j s t at_i at_j on_s on_t parted =
      let a = drawn-at i s at_i in
      let b = drawn-at j t at_j in
      let on_a : a.0.shape.layer ≡ layer = ap (λ (x : Shape). x.layer) a.2 ∙ on_s in
      let on_b : b.0.shape.layer ≡ layer = ap (λ (x : Shape). x.layer) b.2 ∙ on_t in
      subst (λ (x : Shape). Apart (length_in r space) x.rect t.rect) a.2
      (subst (λ (x : Shape). Apart (length_in r space) a.0.shape.rect x.rect) b.2
      (keep a.0 b.0 (get-contains ds i a.0 a.1) (get-contains ds j b.0 b.1) on_a on_b
      (λ same. parted (net-joined i j a.0 b.0 a.1 b.1 (wired a.0 on_a) (wired b.0 on_b) same))))

  -- the shapes keep their spaces
  is-spaced : Spaced r d l
  is-spaced = record {
    horizontal = keeps r.horizontal.layer r.horizontal.space (λ a on. inl (inl on)) labelled.apart.horizontal;
    vertical = keeps r.vertical.layer r.vertical.space (λ a on. inl (inr on)) labelled.apart.vertical;
    cut = keeps r.cut.layer r.cut.space (λ a on. inr on) labelled.apart.cut;
  }

  -- a drawing of a pin is a vertical wire of the pin's net
  pin-drawn : (p : Pin) (i : ℕ) → Contains d.pins p → DrawsPin d l p i → (a : Drawn) × (slice_get ds i ≡ Some a) × IsWired r a × (a.net ≡ p.net)
  pin-drawn p i has draws =
      let a = labelled.pins.drawn draws.cell p.instance p.terminal i draws.draws in
      (a.0, a.1, inl (inr a.2), a.3 ∙ labelled.pins.nets p has)

  -- pins of one net are joined
  pins-joined : (p q : Pin) → Contains d.pins p → Contains d.pins q → p.net ≡ q.net → PinsJoined r d l p q
  pins-joined p q has_p has_q same =
      let i = labelled.pins.shown p has_p in
      let j = labelled.pins.shown q has_q in
      let a = pin-drawn p i.0 has_p i.1 in
      let b = pin-drawn q j.0 has_q j.1 in
      record {
        from = i.0;
        to = j.0;
        of_first = i.1;
        of_second = j.1;
        joined = net-joined i.0 j.0 a.0 b.0 a.1 b.1 a.2 b.2 (a.3 ∙ same ∙ sym b.3);
      }

  module _ (valid : ValidRules r) where
    -- a neighbour of a rectangle's number is that of a rectangle of the same net
    neighbour-net : (i k : ℕ) (a : Drawn) → slice_get ds i ≡ Some a → Neighbours r d l i k → (c : Drawn) × (slice_get ds k ≡ Some c) × (a.net ≡ c.net)
    neighbour-net i k a at (touching s t at_i at_k touch) =
        let c = drawn-at k t at_k in
        let first : s ≡ a.shape = same_Some s a.shape (sym at_i ∙ shape-at i a at) in
        let touches : Touch r a.shape c.0.shape = subst (λ (x : Shape). Touch r x c.0.shape) first (subst (λ (x : Shape). Touch r s x) (sym c.2) touch) in
        (c.0, c.1, touch-net r ds labelled.wide valid labelled.apart a c.0 (get-contains ds i a at) (get-contains ds k c.0 c.1) touches)
    neighbour-net i k a at (of_one_terminal cell instance terminal first second) =
        let c = labelled.pins.drawn cell instance terminal k second in
        (c.0, c.1, drawing-net cell instance terminal i a first at ∙ sym c.3)

    -- rectangles whose numbers are joined are of one net
    joined-net : (j i : ℕ) → Joined r d l j i → (a b : Drawn) → slice_get ds i ≡ Some a → slice_get ds j ≡ Some b → a.net ≡ b.net
    joined-net j i here a b at_i at_j = ap (λ (x : Drawn). x.net) (same_Some a b (sym at_i ∙ at_j))
    joined-net j i (step k next more) a b at_i at_j =
        let c = neighbour-net i k a at_i next in
        c.2 ∙ joined-net j k more c.0 b c.1 at_j

    -- pins that are joined are of one net
    pins-net : (p q : Pin) → Contains d.pins p → Contains d.pins q → PinsJoined r d l p q → p.net ≡ q.net
    pins-net p q has_p has_q pins =
        let a = pin-drawn p pins.from has_p pins.of_first in
        let b = pin-drawn q pins.to has_q pins.of_second in
        sym a.3 ∙ joined-net pins.to pins.from pins.joined a.0 b.0 a.1 b.1 ∙ b.3

-- a layout whose shapes have nets is wide
pub labelled-wide : (r : RuleValues) (d : Netlist) (l : Layout) (ds : List Drawn) (net_at : ℕ → ℕ → ℕ) → IsLabelled r d l ds net_at → Wide r l
labelled-wide r d l ds net_at labelled = is-wide r d l ds net_at labelled

-- it keeps its spaces
pub labelled-spaced : (r : RuleValues) (d : Netlist) (l : Layout) (ds : List Drawn) (net_at : ℕ → ℕ → ℕ) → ValidRules r → IsLabelled r d l ds net_at → Spaced r d l
labelled-spaced r d l ds net_at valid labelled = is-spaced r d l ds net_at labelled

-- and it joins exactly the pins of one net
pub labelled-nets : (r : RuleValues) (d : Netlist) (l : Layout) (ds : List Drawn) (net_at : ℕ → ℕ → ℕ) → ValidRules r → IsLabelled r d l ds net_at
    → (p q : Pin) → Contains d.pins p → Contains d.pins q → PinsJoined r d l p q ↔ (p.net ≡ q.net)
labelled-nets r d l ds net_at valid labelled p q has_p has_q =
    (pins-net r d l ds net_at labelled valid p q has_p has_q, pins-joined r d l ds net_at labelled p q has_p has_q)
