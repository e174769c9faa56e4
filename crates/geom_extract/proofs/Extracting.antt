use Rattle.std.proofs.Common.{◌≡◌, ◌<◌, ◌≤◌, ◌+◌, ◌^◌, ◌∙◌, ◌↔◌, ℕ, List, Some, length, map, get_or, ap, ap₂, sym, subst, arith}
use Rattle.std.specs.Prelude.{All, Contains, slice_index}
use Rattle.std.specs.List.{slice_get}
use Rattle.std.specs.Option.{option_map}
use Rattle.std.proofs.lemmas.List.{length-map}
use Rattle.std.proofs.lemmas.Option.{get_or_from_slice_get, slice_get-get_or, slice_get-map}
use Rattle.geom_core.specs.declared.layout.Layout.{Layout}
use Rattle.geom_core.specs.declared.layout.Shape.{Shape}
use Rattle.tech_rules.specs.Rules.{RuleValues}
use Rattle.design_model.specs.CellsMatch.{CellsMatch, instance_names}
use Rattle.design_model.specs.Joined.{Draws, DrawsPin, Joined, PinsJoined}
use Rattle.design_model.specs.Netlist.{IsNetlist, Netlist}
use Rattle.design_model.specs.declared.design.Inst.{Inst}
use Rattle.design_model.specs.declared.design.Pin.{Pin}
use Rattle.design_model.specs.declared.design.Position.{Position}
use Rattle.geom_extract.specs.CellTies.{ArePlaces, first_place, first_places, pin_shape, positions_at, start_of, starts_of}
use Rattle.geom_extract.specs.Extracts.{IsExtract}
use Rattle.geom_extract.proofs.Ties.{DrawOne}
use Rattle.geom_extract.specs.Touching.{Connected}
use Rattle.geom_extract.specs.declared.joined.Extract.{Extract}
use Rattle.geom_extract.proofs.CellJoins.{are-ties, drawn-first, drawn-within, inst-room, inst-stands, place-drawn, whole}
use Rattle.geom_extract.proofs.FirstPlaces.{IsFirst, first-there}
use Rattle.geom_extract.proofs.JoinedShapes.{connected-is-joined}
use Rattle.geom_extract.proofs.PinPlaces.{IsPinOf, pin-of, positions-are}
use Rattle.std_laws.proofs.Members.{get-contains}

abbrev BothWithin : ℕ → ℕ × ℕ → Type 0
BothWithin n t = (t.0 < n) × (t.1 < n)

module _ (r : RuleValues) (d : Netlist) (l : Layout) (good : IsNetlist d) (cells : CellsMatch r d l) where
  -- the tables are those of the design and its layout
  pub are-places : (table : List (List ℕ)) (list : List ℕ) → length l.shapes < 2 ^ 32 → table ≡ map first_places d.kinds → list ≡ starts_of l d
      → ArePlaces (record { design = d; firsts = table; starts = list })
  are-places table list few firsts starts = record {
    firsts = firsts;
    long = ap (λ (s : List ℕ). length s) starts ∙ length-map (instance_names d) (start_of l) ∙ length-map d.instances (λ (i : Inst). i.name);
    room = λ n below.
        let room : slice_index (starts_of l d) n + length (positions_at d n) ≤ length l.shapes = inst-room r d l good cells n below in
        let same : slice_index list n ≡ slice_index (starts_of l d) n = ap (λ (s : List ℕ). slice_index s n) starts in
        omega arith;
  }

  -- ties are pairs of shapes
  pub ties-within : (ties : List (ℕ × ℕ)) → ties ≡ whole d l → All (BothWithin (length l.shapes)) ties
  ties-within ties same = λ k t below.
      let pair : ℕ × ℕ = get_or ties k t in
      let among : Contains ties pair = get-contains ties k pair (slice_get-get_or ties k t below) in
      let one : DrawOne d l pair.0 pair.1 =
      (are-ties r d l good cells).each pair.0 pair.1 (subst (λ (list : List (ℕ × ℕ)). Contains list pair) same among) in
      (drawn-within r d l good cells one.cell one.instance one.terminal pair.0 one.first, drawn-within r d l good cells one.cell one.instance one.terminal pair.1 one.second)

  -- the shape of a pin is drawn for it
  pub pin-drawn : (n : ℕ) (p : Pin) → slice_get d.pins n ≡ Some p → DrawsPin d l p (pin_shape d (starts_of l d) p)
  pin-drawn n p is =
      let pin : IsPinOf d p = pin-of d n p good is in
      let same : positions_at d p.instance ≡ pin.of.kind.positions = positions-are d p.instance pin.of.inst pin.of.kind pin.of.is_instance pin.of.is_kind in
      let first : IsFirst pin.of.kind.positions p.terminal = first-there pin.of.kind.positions p.terminal pin.reached in
      let cell : ℕ = (inst-stands r d l good cells p.instance pin.of.inst pin.of.is_instance).cell in
      let start : ℕ = slice_index (starts_of l d) p.instance in
      let one : Draws d l cell p.instance first.position.terminal (start + first_place pin.of.kind.positions p.terminal) =
      place-drawn r d l good cells p.instance (first_place pin.of.kind.positions p.terminal) pin.of first.position first.is in
      record {
        cell = cell;
        draws = subst (λ (ps : List Position). Draws d l cell p.instance p.terminal (start + first_place ps p.terminal)) (sym same)
            (subst (λ (t : ℕ). Draws d l cell p.instance t (start + first_place pin.of.kind.positions p.terminal)) first.of_terminal one);
      }

  pub pin-shape-within : (n : ℕ) (p : Pin) → slice_get d.pins n ≡ Some p → pin_shape d (starts_of l d) p < length l.shapes
  pin-shape-within n p is =
      let drawn : DrawsPin d l p (pin_shape d (starts_of l d) p) = pin-drawn n p is in
      drawn-within r d l good cells drawn.cell p.instance p.terminal (pin_shape d (starts_of l d) p) drawn.draws

  module _ (e : Extract) (long : length e.shapes.items ≡ length l.shapes)
      (exact : (x y : ℕ) → x < length e.shapes.items → y < length e.shapes.items
      → (slice_index e.shapes.items x ≡ slice_index e.shapes.items y) ↔ Connected r l.shapes (whole d l) x y)
      (numbers : e.pins.items ≡ map (λ (p : Pin). slice_index e.shapes.items (pin_shape d (starts_of l d) p)) d.pins) where
    shapes-joined : (x y : ℕ) → x < length l.shapes → y < length l.shapes
        → (slice_index e.shapes.items x ≡ slice_index e.shapes.items y) ↔ Joined r d l x y
    shapes-joined x y first second =
        let chain = exact x y (omega arith) (omega arith) in
        let joined = connected-is-joined r d l (whole d l) (are-ties r d l good cells) x y in
        (λ same. joined.0 (chain.0 same), λ join. chain.1 (joined.1 join))

    pin-number : (n : ℕ) (p : Pin) → slice_get d.pins n ≡ Some p
        → slice_index e.pins.items n ≡ slice_index e.shapes.items (pin_shape d (starts_of l d) p)
    pin-number n p is =
        let number : Pin → ℕ = λ (q : Pin). slice_index e.shapes.items (pin_shape d (starts_of l d) q) in
        get_or_from_slice_get e.pins.items n (number p) 0
        (ap (λ (list : List ℕ). slice_get list n) numbers ∙ slice_get-map number d.pins n ∙ ap (option_map number) is)

    pin-drawn-number : (n x : ℕ) (p : Pin) → slice_get d.pins n ≡ Some p → DrawsPin d l p x → slice_index e.pins.items n ≡ slice_index e.shapes.items x
    pin-drawn-number n x p is drawn =
        let first : pin_shape d (starts_of l d) p < length l.shapes = pin-shape-within n p is in
        let second : x < length l.shapes = drawn-within r d l good cells drawn.cell p.instance p.terminal x drawn.draws in
        pin-number n p is
        ∙ (exact (pin_shape d (starts_of l d) p) x (omega arith) (omega arith)).1 (drawn-first r d l good cells drawn.cell p.instance p.terminal x drawn.draws)

    pins-joined : (m n : ℕ) (p q : Pin) → slice_get d.pins m ≡ Some p → slice_get d.pins n ≡ Some q
        → (slice_index e.pins.items m ≡ slice_index e.pins.items n) ↔ PinsJoined r d l p q
    pins-joined m n p q first second = (
      λ same. record {
        from = pin_shape d (starts_of l d) p;
        to = pin_shape d (starts_of l d) q;
        of_first = pin-drawn m p first;
        of_second = pin-drawn n q second;
        joined = (shapes-joined (pin_shape d (starts_of l d) q) (pin_shape d (starts_of l d) p) (pin-shape-within n q second) (pin-shape-within m p first)).0
            (sym (pin-number n q second) ∙ sym same ∙ pin-number m p first);
      },
      λ join.
          let from : join.from < length l.shapes =
          drawn-within r d l good cells join.of_first.cell p.instance p.terminal join.from join.of_first.draws in
          let to : join.to < length l.shapes =
          drawn-within r d l good cells join.of_second.cell q.instance q.terminal join.to join.of_second.draws in
          pin-drawn-number m join.from p first join.of_first ∙ sym ((shapes-joined join.to join.from to from).1 join.joined)
          ∙ sym (pin-drawn-number n join.to q second join.of_second),
    )

    -- numbers by chains are those of joined shapes and pins
    is-extract : IsExtract r d l e
    is-extract = record {
      all_shapes = long;
      all_pins = ap (λ (list : List ℕ). length list) numbers ∙ length-map d.pins (λ (p : Pin). slice_index e.shapes.items (pin_shape d (starts_of l d) p));
      shapes = shapes-joined;
      pins = pins-joined;
      drawn = pin-drawn-number;
    }

  -- and so they are by what was computed on the way
  pub extracted : (e : Extract) (shapes : List Shape) (ties : List (ℕ × ℕ)) (starts classes : List ℕ) → shapes ≡ l.shapes → ties ≡ whole d l
      → starts ≡ starts_of l d → classes ≡ e.shapes.items → length e.shapes.items ≡ length shapes
      → ((x y : ℕ) → x < length e.shapes.items → y < length e.shapes.items
      → (slice_index e.shapes.items x ≡ slice_index e.shapes.items y) ↔ Connected r shapes ties x y)
      → e.pins.items ≡ map (λ (p : Pin). slice_index classes (pin_shape d starts p)) d.pins → IsExtract r d l e
  extracted e shapes ties starts classes all tied at numbered long exact numbers =
      is-extract e (long ∙ ap (λ (list : List Shape). length list) all)
      (λ x y first second.
      subst (λ (list : List Shape). (slice_index e.shapes.items x ≡ slice_index e.shapes.items y) ↔ Connected r list (whole d l) x y) all
      (subst (λ (list : List (ℕ × ℕ)). (slice_index e.shapes.items x ≡ slice_index e.shapes.items y) ↔ Connected r shapes list x y) tied
      (exact x y first second)))
      (numbers ∙ ap₂ (λ (c s : List ℕ). map (λ (p : Pin). slice_index c (pin_shape d s p)) d.pins) numbered at)

  pub pins-within : (starts : List ℕ) (count : ℕ) → starts ≡ starts_of l d → count ≡ length l.shapes
      → All (λ (p : Pin). pin_shape d starts p < count) d.pins
  pins-within starts count at long = λ k p below.
      let pin : Pin = get_or d.pins k p in
      let within : pin_shape d (starts_of l d) pin < length l.shapes = pin-shape-within k pin (slice_get-get_or d.pins k p below) in
      let same : pin_shape d starts pin ≡ pin_shape d (starts_of l d) pin = ap (λ (s : List ℕ). pin_shape d s pin) at in
      omega (arith, same, within, long)
