use Rattle.std.proofs.Common.{◌≡◌, ◌∙◌, ℕ, List, Bool, true, false, if◌then◌else◌, sym, subst, refl, inl, inr}
use Rattle.std.specs.Str.{bytes_eq}
use Rattle.tech_rules.specs.Rules.{RuleValues, AreDifferent}
use Rattle.design_model.specs.Joined.{Conducts}
use Rattle.design_model.specs.Joined.Conducts.{on_one, cut_to_wire, wire_to_cut}
use Rattle.geom_extract.specs.Planes.{plane_of}
use Rattle.geom_extract.specs.declared.plane.Plane.{Plane}
use Rattle.geom_extract.specs.declared.plane.Plane.TheVariants.{Horizontal, Vertical, Cut, Other}
use Rattle.std_laws.proofs.Bytes.{bytes_one, bytes_same, bytes-differ}

-- what the layer of a plane is
abbrev pub LayerIs : RuleValues → List ℕ → Plane → Type 0
LayerIs r layer Horizontal = layer ≡ r.horizontal.layer
LayerIs r layer Vertical = layer ≡ r.vertical.layer
LayerIs r layer Cut = layer ≡ r.cut.layer
LayerIs r layer Other = Unit {0}

pub layer-is : (r : RuleValues) (layer : List ℕ) → LayerIs r layer (plane_of r layer)
layer-is r layer = first (bytes_eq layer r.horizontal.layer) refl
  where
    third : (b : Bool) → bytes_eq layer r.cut.layer ≡ b → LayerIs r layer (if b then Cut else Other)
    third true is = bytes_one layer r.cut.layer is
    third false is = tt

    second : (b : Bool) → bytes_eq layer r.vertical.layer ≡ b
        → LayerIs r layer (if b then Vertical else (if bytes_eq layer r.cut.layer then Cut else Other))
    second true is = bytes_one layer r.vertical.layer is
    second false is = third (bytes_eq layer r.cut.layer) refl

    first : (b : Bool) → bytes_eq layer r.horizontal.layer ≡ b
        → LayerIs r layer (if b then Horizontal else (if bytes_eq layer r.vertical.layer then Vertical else (if bytes_eq layer r.cut.layer then Cut else Other)))
    first true is = bytes_one layer r.horizontal.layer is
    first false is = second (bytes_eq layer r.vertical.layer) refl

pub plane-horizontal : (r : RuleValues) (layer : List ℕ) → layer ≡ r.horizontal.layer → plane_of r layer ≡ Horizontal
plane-horizontal r layer is = subst (λ (l : List ℕ). plane_of r l ≡ Horizontal) (sym is) (rw (bytes_same r.horizontal.layer))

pub plane-vertical : (r : RuleValues) (layer : List ℕ) → AreDifferent r → layer ≡ r.vertical.layer → plane_of r layer ≡ Vertical
plane-vertical r layer apart is = subst (λ (l : List ℕ). plane_of r l ≡ Vertical) (sym is)
    (rw (bytes-differ r.vertical.layer r.horizontal.layer (λ same. apart.horizontal_vertical (sym same)), bytes_same r.vertical.layer))

pub plane-cut : (r : RuleValues) (layer : List ℕ) → AreDifferent r → layer ≡ r.cut.layer → plane_of r layer ≡ Cut
plane-cut r layer apart is = subst (λ (l : List ℕ). plane_of r l ≡ Cut) (sym is)
    (rw (
      bytes-differ r.cut.layer r.horizontal.layer (λ same. apart.horizontal_cut (sym same)),
      bytes-differ r.cut.layer r.vertical.layer (λ same. apart.vertical_cut (sym same)),
      bytes_same r.cut.layer,
    ))

-- the planes between which shapes conduct
pub data Pass : Plane → Plane → Type 0 where
  hh : Pass Horizontal Horizontal
  hc : Pass Horizontal Cut
  vv : Pass Vertical Vertical
  vc : Pass Vertical Cut
  ch : Pass Cut Horizontal
  cv : Pass Cut Vertical

pub pass-conducts : (r : RuleValues) (a b : List ℕ) (p q : Plane) → LayerIs r a p → LayerIs r b q → Pass p q → Conducts r a b
pass-conducts r a b p q first second hh = on_one (inl first) (first ∙ sym second)
pass-conducts r a b p q first second hc = wire_to_cut (inl first) second
pass-conducts r a b p q first second vv = on_one (inr first) (first ∙ sym second)
pass-conducts r a b p q first second vc = wire_to_cut (inr first) second
pass-conducts r a b p q first second ch = cut_to_wire first (inl second)
pass-conducts r a b p q first second cv = cut_to_wire first (inr second)

made : (p q p2 q2 : Plane) → p ≡ p2 → q ≡ q2 → Pass p2 q2 → Pass p q
made p q p2 q2 first second pass = subst (λ (x : Plane). Pass x q) (sym first) (subst (λ (x : Plane). Pass p2 x) (sym second) pass)

pub conducts-pass : (r : RuleValues) (a b : List ℕ) → AreDifferent r → Conducts r a b → Pass (plane_of r a) (plane_of r b)
conducts-pass r a b apart (on_one (inl h) same) =
    made _ _ Horizontal Horizontal (plane-horizontal r a h) (plane-horizontal r b (sym same ∙ h)) hh
conducts-pass r a b apart (on_one (inr v) same) =
    made _ _ Vertical Vertical (plane-vertical r a apart v) (plane-vertical r b apart (sym same ∙ v)) vv
conducts-pass r a b apart (cut_to_wire c (inl h)) = made _ _ Cut Horizontal (plane-cut r a apart c) (plane-horizontal r b h) ch
conducts-pass r a b apart (cut_to_wire c (inr v)) = made _ _ Cut Vertical (plane-cut r a apart c) (plane-vertical r b apart v) cv
conducts-pass r a b apart (wire_to_cut (inl h) c) = made _ _ Horizontal Cut (plane-horizontal r a h) (plane-cut r b apart c) hc
conducts-pass r a b apart (wire_to_cut (inr v) c) = made _ _ Vertical Cut (plane-vertical r a apart v) (plane-cut r b apart c) vc
