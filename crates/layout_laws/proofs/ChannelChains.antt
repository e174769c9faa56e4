use Rattle.std.proofs.Common.{◌≡◌, inl, inr, refl, sym, ◌∙◌, subst, ℕ, List, Contains, arith}
use Rattle.channel_model.specs.declared.wiring.Via.{Via}
use Rattle.channel_model.specs.declared.wiring.Wiring.{Wiring}
use Rattle.channel_model.specs.Elements.{Layer, vertical, horizontal, Element, segment, via, elements, Meets}
use Rattle.channel_model.specs.Pins.{Pins}
use Rattle.channel_model.specs.Wired.{Wired, Linked, itself as alone, onward}
use Rattle.geom_core.specs.declared.layout.Layout.{Layout}
use Rattle.tech_rules.specs.Lengths.{IsWire}
use Rattle.tech_rules.specs.Rules.{RuleValues, ValidRules, pad}
use Rattle.design_model.specs.Joined.{on_one, wire_to_cut, Touch}
use Rattle.design_model.specs.Netlist.{Netlist}
use Rattle.wire_geom.specs.Contact.{layer_name, KeepContact}
use Rattle.wire_geom.specs.Drawing.{on_horizontal, on_vertical, on_cut, segment_piece, via_piece, drawn_of, drawn_by, drawing}
use Rattle.wire_geom.specs.declared.drawn.Drawn.{Drawn}
use Rattle.wire_geom.proofs.DrawingLaws.{drawing_contact}
use Rattle.layout_laws.proofs.Chains.{AreChained, itself}
use Rattle.layout_laws.proofs.ChainLaws.{AreChained-trans, AreChained-sym, touch-chained}
use Rattle.std_laws.proofs.Members.{member-only, each-of_three}

-- the layers that wirings have are layers of wires
wire-named : (r : RuleValues) (layer : Layer) → IsWire r (layer_name r layer)
wire-named r vertical = inr refl
wire-named r horizontal = inl refl

module _ (pins : Pins) (wiring : Wiring) (wired : Wired pins wiring) (r : RuleValues) (valid : ValidRules r) (base : ℕ) (d : Netlist) (l : Layout) (ds : List Drawn)
    (among : (a : Drawn) → Contains (drawing r base wiring) a → Contains ds a) where
  -- a chain from the first to the second
  abbrev To : Drawn → Drawn → Type 0
  To a b = AreChained r d l ds b a

  contact : KeepContact r base wiring (drawing r base wiring)
  contact = drawing_contact pins wiring wired r valid base

  abbrev Of : Element → Drawn → Type 0
  Of e a = Contains (drawn_by r base wiring.tracks e) a

  is_among : (e : Element) (a : Drawn) → Contains (elements wiring) e → Of e a → Contains ds a
  is_among e a listed member = among a (contact.all e a listed member)

  -- the three rectangles of a via are chained through the cut
  abbrev cut_of : Via → Drawn
  cut_of v = drawn_of r (via_piece r base on_cut r.cut.size v)

  to_cut : (v : Via) → Contains (elements wiring) (via v) → (a : Drawn) → Of (via v) a → To a (cut_of v)
  to_cut v listed a member =
      each-of_three (λ (x : Drawn). Of (via v) x → To x (cut_of v))
      (drawn_of r (via_piece r base on_horizontal (pad r) v)) (drawn_of r (via_piece r base on_vertical (pad r) v)) (cut_of v) a
      (λ h. touch-chained cut_among (touching (drawn_of r (via_piece r base on_horizontal (pad r) v)) h (inl refl)))
      (λ h. touch-chained cut_among (touching (drawn_of r (via_piece r base on_vertical (pad r) v)) h (inr refl)))
      (λ h. itself) member member
    where
      cut_there : Of (via v) (cut_of v)
      cut_there = (2, omega arith, refl)

      cut_among : Contains ds (cut_of v)
      cut_among = is_among (via v) (cut_of v) listed cut_there

      point : Meets (via v) (via v)
      point = record { layer = vertical; column = v.column; line = v.track; first = (refl, refl); second = (refl, refl) }

      touching : (x : Drawn) → Of (via v) x → IsWire r x.shape.layer → Touch r x.shape (cut_of v).shape
      touching x there wire = record { layers = wire_to_cut wire refl; meet = contact.contact (via v) (via v) x (cut_of v) listed listed point there cut_there }

  element_chained : (e : Element) → Contains (elements wiring) e → (a b : Drawn) → Of e a → Of e b → To a b
  element_chained (segment s) listed a b in_a in_b =
      let x : Drawn = drawn_of r (segment_piece r base wiring.tracks s) in
      subst (λ (y : Drawn). To a y) (sym (member-only x a in_a) ∙ member-only x b in_b) itself
  element_chained (via v) listed a b in_a in_b =
      AreChained-trans (to_cut v listed a in_a) (AreChained-sym (is_among (via v) b listed in_b) (to_cut v listed b in_b))

  -- elements that meet have rectangles that touch
  linked_chained : {e f : Element} → Linked wiring e f → Contains (elements wiring) e → (a b : Drawn) → Of e a → Of f b → To a b
  linked_chained {e} alone listed a b in_a in_b = element_chained e listed a b in_a in_b
  linked_chained {e} (onward {f = h} there meets chain) listed a b in_a in_b =
      let x = contact.shown e meets.layer meets.column meets.line listed meets.first in
      let y = contact.shown h meets.layer meets.column meets.line there meets.second in
      AreChained-trans (element_chained e listed a x.0 in_a x.1)
      (AreChained-trans (touch-chained (is_among h y.0 there y.1) (record {
        layers = on_one (subst (λ (k : List ℕ). IsWire r k) (sym x.2) (wire-named r meets.layer)) (x.2 ∙ sym y.2);
        meet = contact.contact e h x.0 y.0 listed there meets x.1 y.1;
      })) (linked_chained chain there y.0 b y.1 in_b))

  -- rectangles of one net in a channel are chained
  pub channel_chained : (a b : Drawn) → Contains (drawing r base wiring) a → Contains (drawing r base wiring) b → a.net ≡ b.net → AreChained r d l ds b a
  channel_chained a b in_a in_b one_net =
      let of_a = contact.alone a in_a in
      let of_b = contact.alone b in_b in
      let net_a = contact.nets of_a.element a of_a.is_element of_a.is_drawn in
      let net_b = contact.nets of_b.element b of_b.is_element of_b.is_drawn in
      linked_chained (wired.linked of_a.element of_b.element of_a.is_element of_b.is_element (sym net_a ∙ one_net ∙ net_b)) of_a.is_element a b of_a.is_drawn of_b.is_drawn
