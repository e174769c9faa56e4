use Rattle.std.proofs.Common.{◌≡◌, ◌<◌, ◌+◌, ◌∙◌, ◌⊎◌, ℕ, zero, suc, List, [], ◌∷◌, Some, length, ap, sym, subst, refl, inl, inr, arith}
use Rattle.std.specs.Prelude.{Contains}
use Rattle.std.specs.List.{slice_get}
use Rattle.geom_core.specs.Extent.{Extent}
use Rattle.geom_core.specs.Rectangles.{Meet}
use Rattle.geom_core.specs.declared.layout.Shape.{Shape}
use Rattle.close_rects.proofs.PlaneLaws.{Meet-in_plane, in_plane-Meet}
use Rattle.tech_rules.specs.Rules.{RuleValues, AreDifferent}
use Rattle.tech_rules.specs.Lengths.{IsWire}
use Rattle.design_model.specs.Joined.{Conducts}
use Rattle.design_model.specs.Joined.Conducts.{on_one, cut_to_wire, wire_to_cut}
use Rattle.geom_extract.specs.Planes.{number_of, plane_of, raised, tie_at}
use Rattle.geom_extract.specs.Touching.{Beside, IsWebOf, rect_of}
use Rattle.geom_extract.specs.Asking.{asks_of}
use Rattle.geom_extract.specs.Touching.Beside.{touching, tied, tied_back}
use Rattle.geom_extract.specs.Webs.{Leads, Linked, Web}
use Rattle.geom_extract.specs.declared.plane.Plane.{Plane}
use Rattle.geom_extract.specs.declared.plane.Plane.TheVariants.{Horizontal, Vertical, Cut, Other}
use Rattle.geom_extract.specs.declared.asker.Asks.{Asks}
use Rattle.geom_extract.proofs.Conducting.{Pass, conducts-pass, layer-is, pass-conducts}
use Rattle.geom_extract.proofs.Conducting.Pass.{hh, hc, vv, vc, ch, cv}
use Rattle.geom_extract.proofs.Meetings.{Meet-sym, no-tie, one-tie, own-tie, same-plane}
use Rattle.geom_extract.proofs.WebSides.{InReach, IsWay, asks-at, asks-shape, at-leads, leads-at, shape-at, tie-at, way-of}
use Rattle.geom_extract.proofs.WebSides.IsWay.{of_shape, of_tie, of_tie_back}

abbrev pub InRange : List Shape → List (ℕ × ℕ) → Type 0
InRange shapes ties = (a b : ℕ) → Contains ties (a, b) → (a < length shapes) × (b < length shapes)

abbrev LeadsTo : Web → Asks → ℕ → Type 0
LeadsTo web asks y = Leads web asks.first y ⊎ (Leads web asks.second y ⊎ Leads web asks.third y)

some-shape : (shapes : List Shape) (x : ℕ) → x < length shapes → (s : Shape) × (slice_get shapes x ≡ Some s)
some-shape [] x within = absurd (omega arith)
some-shape (s ∷ shapes) zero within = (s, refl)
some-shape (s ∷ shapes) (suc x) within = some-shape shapes x (omega arith)

pub some-rect : (rects : List Extent) (k : ℕ) → k < length rects → (e : Extent) × (slice_get rects k ≡ Some e)
some-rect [] k within = absurd (omega arith)
some-rect (e ∷ rects) zero within = (e, refl)
some-rect (e ∷ rects) (suc k) within = some-rect rects k (omega arith)

conducts-sym : (r : RuleValues) (a b : List ℕ) → Conducts r a b → Conducts r b a
conducts-sym r a b (on_one wire same) = on_one (subst (λ (l : List ℕ). IsWire r l) same wire) (sym same)
conducts-sym r a b (cut_to_wire cut wire) = wire_to_cut wire cut
conducts-sym r a b (wire_to_cut wire cut) = cut_to_wire cut wire

pub beside-sym : (r : RuleValues) (shapes : List Shape) (ties : List (ℕ × ℕ)) (x y : ℕ) → Beside r shapes ties x y → Beside r shapes ties y x
beside-sym r shapes ties x y (touching s t is there touch) =
    touching t s there is (record { layers = conducts-sym r s.layer t.layer touch.layers; meet = Meet-sym s.rect t.rect touch.meet })
beside-sym r shapes ties x y (tied among) = tied_back among
beside-sym r shapes ties x y (tied_back among) = tied among

module _ (r : RuleValues) (shapes : List Shape) (ties : List (ℕ × ℕ)) (web : Web) (of : IsWebOf r shapes ties web) (reach : InReach shapes) where
  -- to what a shape's rectangle in a plane leads, it touches
  by-shape : (x y : ℕ) (s : Shape) (p : Plane) → slice_get shapes x ≡ Some s → Pass (plane_of r s.layer) p
      → Leads web (raised p s.rect) y → Beside r shapes ties x y
  by-shape x y s p is pass leads = go (way-of r shapes ties web leads.rect y of (at-leads web (raised p s.rect) y leads)) leads.meets
    where
      go : IsWay r shapes ties leads.rect y → Meet (raised p s.rect) leads.rect → Beside r shapes ties x y
      go (of_shape t there same) meets =
          let met : Meet (raised p s.rect) (rect_of r t) = subst (λ (e : Extent). Meet (raised p s.rect) e) (sym same) meets in
          let one : p ≡ plane_of r t.layer = same-plane p (plane_of r t.layer) s.rect t.rect (reach x s is) (reach y t there) met in
          let level : Meet (raised (plane_of r t.layer) s.rect) (rect_of r t) =
          subst (λ (q : Plane). Meet (raised q s.rect) (rect_of r t)) one met in
          touching s t is there (record {
            layers = pass-conducts r s.layer t.layer (plane_of r s.layer) (plane_of r t.layer) (layer-is r s.layer) (layer-is r t.layer)
                (subst (λ (q : Plane). Pass (plane_of r s.layer) q) one pass);
            meet = in_plane-Meet (number_of (plane_of r t.layer)) s.rect t.rect level;
          })
      go (of_tie a among same) meets =
          absurd (no-tie p a s.rect (reach x s is) (subst (λ (e : Extent). Meet (raised p s.rect) e) (sym same) meets))
      go (of_tie_back a among same) meets =
          absurd (no-tie p a s.rect (reach x s is) (subst (λ (e : Extent). Meet (raised p s.rect) e) (sym same) meets))

  -- to what its place among ties leads, it is tied
  by-tie : (x y : ℕ) → Leads web (tie_at x) y → Beside r shapes ties x y
  by-tie x y leads = go (way-of r shapes ties web leads.rect y of (at-leads web (tie_at x) y leads)) leads.meets
    where
      go : IsWay r shapes ties leads.rect y → Meet (tie_at x) leads.rect → Beside r shapes ties x y
      go (of_shape t there same) meets = absurd (no-tie (plane_of r t.layer) x t.rect (reach y t there)
          (Meet-sym (tie_at x) (rect_of r t) (subst (λ (e : Extent). Meet (tie_at x) e) (sym same) meets)))
      go (of_tie a among same) meets =
          let one : x ≡ a = one-tie x a (subst (λ (e : Extent). Meet (tie_at x) e) (sym same) meets) in
          tied (subst (λ (k : ℕ). Contains ties (k, y)) (sym one) among)
      go (of_tie_back a among same) meets =
          let one : x ≡ a = one-tie x a (subst (λ (e : Extent). Meet (tie_at x) e) (sym same) meets) in
          tied_back (subst (λ (k : ℕ). Contains ties (y, k)) (sym one) among)

  by-asks : (x y : ℕ) (s : Shape) (p : Plane) → slice_get shapes x ≡ Some s → plane_of r s.layer ≡ p → LeadsTo web (asks_of p s.rect x) y
      → Beside r shapes ties x y
  by-asks x y s Horizontal is plane (inl leads) = by-shape x y s Horizontal is (subst (λ (q : Plane). Pass q Horizontal) (sym plane) hh) leads
  by-asks x y s Horizontal is plane (inr (inl leads)) = by-shape x y s Cut is (subst (λ (q : Plane). Pass q Cut) (sym plane) hc) leads
  by-asks x y s Horizontal is plane (inr (inr leads)) = by-tie x y leads
  by-asks x y s Vertical is plane (inl leads) = by-shape x y s Vertical is (subst (λ (q : Plane). Pass q Vertical) (sym plane) vv) leads
  by-asks x y s Vertical is plane (inr (inl leads)) = by-shape x y s Cut is (subst (λ (q : Plane). Pass q Cut) (sym plane) vc) leads
  by-asks x y s Vertical is plane (inr (inr leads)) = by-tie x y leads
  by-asks x y s Cut is plane (inl leads) = by-shape x y s Horizontal is (subst (λ (q : Plane). Pass q Horizontal) (sym plane) ch) leads
  by-asks x y s Cut is plane (inr (inl leads)) = by-shape x y s Vertical is (subst (λ (q : Plane). Pass q Vertical) (sym plane) cv) leads
  by-asks x y s Cut is plane (inr (inr leads)) = by-tie x y leads
  by-asks x y s Other is plane (inl leads) = by-tie x y leads
  by-asks x y s Other is plane (inr (inl leads)) = by-tie x y leads
  by-asks x y s Other is plane (inr (inr leads)) = by-tie x y leads

  shape-asks : (x : ℕ) (s : Shape) → slice_get shapes x ≡ Some s → slice_get web.asks x ≡ Some (asks_of (plane_of r s.layer) s.rect x)
  shape-asks x s is =
      let same : 0 + x ≡ x = omega arith in
      ap (λ (l : List Asks). slice_get l x) of.asks ∙ asks-at r 0 x shapes s is ∙ ap (λ (k : ℕ). Some (asks_of (plane_of r s.layer) s.rect k)) same

  pub linked-beside : (x y : ℕ) → Linked web x y → Beside r shapes ties x y
  linked-beside x y link =
      let found = asks-shape r 0 x shapes link.asks (sym (ap (λ (l : List Asks). slice_get l x) of.asks) ∙ link.is_asks) in
      let there : slice_get web.asks x ≡ Some (asks_of (plane_of r found.0.layer) found.0.rect x) = shape-asks x found.0 found.1 in
      let same : link.asks ≡ asks_of (plane_of r found.0.layer) found.0.rect x = cc (link.is_asks, there) in
      by-asks x y found.0 (plane_of r found.0.layer) found.1 refl (subst (λ (a : Asks). LeadsTo web a y) same link.leads)

  leads-to : (y : ℕ) (s t : Shape) (q : Plane) → slice_get shapes y ≡ Some t → plane_of r t.layer ≡ q → Meet s.rect t.rect
      → Leads web (raised q s.rect) y
  leads-to y s t q is plane met = leads-at web (raised q s.rect) (rect_of r t) y (shape-at r shapes ties web y t of is)
      (subst (λ (p : Plane). Meet (raised q s.rect) (raised p t.rect)) (sym plane) (Meet-in_plane (number_of q) s.rect t.rect met))

  leads-by : (x y : ℕ) (s t : Shape) (p q : Plane) → slice_get shapes y ≡ Some t → plane_of r t.layer ≡ q → Meet s.rect t.rect → Pass p q
      → LeadsTo web (asks_of p s.rect x) y
  leads-by x y s t p q is plane met hh = inl (leads-to y s t Horizontal is plane met)
  leads-by x y s t p q is plane met hc = inr (inl (leads-to y s t Cut is plane met))
  leads-by x y s t p q is plane met vv = inl (leads-to y s t Vertical is plane met)
  leads-by x y s t p q is plane met vc = inr (inl (leads-to y s t Cut is plane met))
  leads-by x y s t p q is plane met ch = inl (leads-to y s t Horizontal is plane met)
  leads-by x y s t p q is plane met cv = inr (inl (leads-to y s t Vertical is plane met))

  third-ask : (p : Plane) (e : Extent) (x y : ℕ) → Leads web (tie_at x) y → LeadsTo web (asks_of p e x) y
  third-ask Horizontal e x y leads = inr (inr leads)
  third-ask Vertical e x y leads = inr (inr leads)
  third-ask Cut e x y leads = inr (inr leads)
  third-ask Other e x y leads = inr (inr leads)

  tied-linked : (x y : ℕ) → x < length shapes → Leads web (tie_at x) y → Linked web x y
  tied-linked x y within leads =
      let found = some-shape shapes x within in
      record {
        asks = asks_of (plane_of r found.0.layer) found.0.rect x;
        is_asks = shape-asks x found.0 found.1;
        leads = third-ask (plane_of r found.0.layer) found.0.rect x y leads;
      }

  pub beside-linked : (x y : ℕ) → AreDifferent r → InRange shapes ties → Beside r shapes ties x y → Linked web x y
  beside-linked x y apart range (touching s t is there touch) = record {
    asks = asks_of (plane_of r s.layer) s.rect x;
    is_asks = shape-asks x s is;
    leads = leads-by x y s t (plane_of r s.layer) (plane_of r t.layer) there refl touch.meet (conducts-pass r s.layer t.layer apart touch.layers);
  }
  beside-linked x y apart range (tied among) = tied-linked x y (range x y among).0
      (leads-at web (tie_at x) (tie_at x) y (tie-at r shapes ties web x y of among).0 (own-tie x))
  beside-linked x y apart range (tied_back among) = tied-linked x y (range y x among).1
      (leads-at web (tie_at x) (tie_at x) y (tie-at r shapes ties web y x of among).1 (own-tie x))
