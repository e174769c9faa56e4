use Rattle.std.proofs.Common.{◌≡◌, ℕ, ◌-◌, List, [], ◌∷◌, length, map, cond, Bool, true, false, Option, Some, None, ap, ap₂, sym, subst, ◌∙◌, refl, arith}
use Rattle.std.proofs.lemmas.Bool.Decides.{nat_tests}
use Rattle.std.proofs.lemmas.Option.{none-some, same_Some, slice_get_within}
use Rattle.std.specs.List.{AllByRecursion, find}
use Rattle.std.specs.Option.{option_and_then, option_map}
use Rattle.std.specs.Prelude.{◌==◌, IfSome, if◌then◌else◌, slice_get}
use Rattle.geom_core.specs.Reach.{IsShapeInReach}
use Rattle.geom_core.specs.Names.{is_name}
use Rattle.geom_core.specs.declared.layout.Shape.{Shape}
use Rattle.geom_core.specs.declared.turn.Place.{Place}
use Rattle.tech_rules.specs.Rules.{RuleValues, ValidRules}
use Rattle.design_model.specs.Drawing.{drawing_of, outline_shape, position_shape}
use Rattle.design_model.specs.Netlist.{IsNetlist, Netlist, terminals_of_kind}
use Rattle.design_model.specs.PinOrder.{kind_terminals}
use Rattle.design_model.specs.declared.design.CellKind.{CellKind}
use Rattle.design_model.specs.declared.design.Inst.{Inst}
use Rattle.design_model.specs.declared.design.Pin.{Pin}
use Rattle.design_model.specs.declared.design.Position.{Position}
use Rattle.feed_cells.specs.Fed.{Fed, IsFed}
use Rattle.feed_cells.specs.declared.fed.Item.{Item}
use Rattle.feed_cells.specs.declared.fed.Item.TheVariants.{Cell}
use Rattle.row_model.specs.declared.rows.Seat.{Seat}
use Rattle.channel_stack.specs.declared.placed.PlacedItem.{PlacedItem}
use Rattle.channel_stack.specs.Layouts.{feed_drawing}
use Rattle.cif_writer.specs.FeedHeights.{feed_heights}
use Rattle.cif_writer.specs.LabelParts.{AreLabelParts, IsLabelled, IsLabelledCell, shape_beside}
use Rattle.cif_writer.specs.Labels.{Mark, begun_at, begun_net, terminal_mark, terminal_shape, writable_name, first_pin, first_pins, instance_marks, kind_marks, mark_at, pin_at, placed_marks, terminal_marks}
use Rattle.cif_writer.specs.Symbols.{symbol_drawings}
use Rattle.cif_writer.proofs.SymbolDrawings.{drawings-are}
use Rattle.cif_writer.proofs.SymbolReach.{symbols-reach}
use Rattle.std_laws.proofs.Every.{every-get}
use Rattle.std_laws.proofs.Places.{get-before, map-at}

-- the shape beside the first position of a terminal
pub beside-is : (f : Position → Shape) (terminal : ℕ) (ps : List Position)
    → shape_beside terminal ps (map f ps) ≡ option_map f (find (λ (p : Position). p.terminal == terminal) ps)
beside-is f terminal [] = refl
beside-is f terminal (p ∷ ps) = by (p.terminal == terminal) (beside-is f terminal ps)
  where
    by : (b : Bool) → shape_beside terminal ps (map f ps) ≡ option_map f (find (λ (q : Position). q.terminal == terminal) ps)
        → (if b then Some (f p) else shape_beside terminal ps (map f ps)) ≡ option_map f (cond b (Some p) (find (λ (q : Position). q.terminal == terminal) ps))
    by true more = refl
    by false more = more

-- and it is one of the shapes
pub beside-near : (terminal : ℕ) (ps : List Position) (ss : List Shape) (s : Shape) → AllByRecursion IsShapeInReach ss → shape_beside terminal ps ss ≡ Some s → IsShapeInReach s
beside-near terminal [] ss s near found = absurd (none-some s found)
beside-near terminal (p ∷ ps) [] s near found = absurd (none-some s found)
beside-near terminal (p ∷ ps) (t ∷ ss) s near found = by (p.terminal == terminal) found (beside-near terminal ps ss s near.1)
  where
    by : (b : Bool) → (if b then Some t else shape_beside terminal ps ss) ≡ Some s → (shape_beside terminal ps ss ≡ Some s → IsShapeInReach s) → IsShapeInReach s
    by true here more = subst IsShapeInReach (same_Some t s here) near.0
    by false here more = more here

-- what labels are written from, of a design that is drawn
pub label-parts : (r : RuleValues) (d : Netlist) (fed : Fed) → ValidRules r → IsNetlist d → IsFed d fed → (drawn : List (List Shape)) → drawn ≡ symbol_drawings r d fed
    → (firsts : Option (List ℕ)) → IfSome firsts (λ (all : List ℕ). all ≡ first_pins d) → AreLabelParts r d drawn firsts
label-parts r d fed valid good from drawn is firsts are =
    record {
      drawn = λ n k at. ap (λ (l : List (List Shape)). slice_get l n) (is ∙ drawings-are r d fed)
          ∙ get-before (map (drawing_of r) d.kinds) (map (feed_drawing r) (feed_heights fed)) n (drawing_of r k) (map-at (drawing_of r) d.kinds n k at);
      reach = rw is (symbols-reach r d fed valid good from);
      firsts_are = are;
    }

module _ (r : RuleValues) (d : Netlist) (p : PlacedItem) (s : Seat) (is : p.item ≡ Cell s) where
  -- an item of no instance, or of one of no kind, has no labels
  pub no-instance : slice_get d.instances s.instance ≡ None → placed_marks r d p.item p.place ≡ []
  no-instance none = ap (λ (item : Item). placed_marks r d item p.place) is ∙ ap (instance_marks r d s.instance p.place) none

  module _ (inst : Inst) (is_instance : slice_get d.instances s.instance ≡ Some inst) where
    pub no-kind : slice_get d.kinds inst.kind ≡ None → placed_marks r d p.item p.place ≡ []
    no-kind none =
        ap (λ (item : Item). placed_marks r d item p.place) is ∙ ap (instance_marks r d s.instance p.place) is_instance
        ∙ ap (kind_marks r d s.instance inst p.place) none

    module _ (drawings : List (List Shape)) (firsts : Option (List ℕ)) (parts : AreLabelParts r d drawings firsts) (kind : CellKind) (is_kind : slice_get d.kinds inst.kind ≡ Some kind) where
      -- a kind has a drawing, with an outline
      pub never-undrawn : slice_get drawings inst.kind ≡ None → ⊥
      never-undrawn none = none-some (drawing_of r kind) (sym none ∙ parts.drawn inst.kind kind is_kind)

      pub never-empty : (drawing : List Shape) → slice_get drawings inst.kind ≡ Some drawing → length drawing ≡ 0 → ⊥
      never-empty drawing at none =
          let same : drawing ≡ drawing_of r kind = same_Some drawing (drawing_of r kind) (sym at ∙ parts.drawn inst.kind kind is_kind) in
          omega (arith, none, ap length same)

      -- what the labels of a cell are made of
      pub cell-labelled : (drawing : List Shape) (outline : Shape) (pins : List Shape) → slice_get drawings inst.kind ≡ Some drawing → drawing ≡ outline ∷ pins
          → IsLabelledCell r d p p.place s.instance inst.name kind outline pins
      cell-labelled drawing outline pins at split =
          let same : outline ∷ pins ≡ drawing_of r kind = sym split ∙ same_Some drawing (drawing_of r kind) (sym at ∙ parts.drawn inst.kind kind is_kind) in
          let outline_is : outline ≡ outline_shape r kind = cc same in
          let pins_are : pins ≡ map (position_shape r kind.height) kind.positions = cc same in
          let near : AllByRecursion IsShapeInReach (outline ∷ pins) =
          subst (AllByRecursion IsShapeInReach) split (every-get (λ (l : List Shape). AllByRecursion IsShapeInReach l) drawings inst.kind drawing parts.reach at) in
          record {
            at = refl;
            is = record {
              inside = slice_get_within d.instances s.instance inst is_instance;
              terminals = ap (kind_terminals d.kinds) is_instance ∙ ap terminals_of_kind is_kind;
              pins_are = pins_are;
              reach = near.1;
            };
            outline_near = near.0;
            marks = ap (λ (item : Item). placed_marks r d item p.place) is ∙ ap (instance_marks r d s.instance p.place) is_instance
                ∙ ap (kind_marks r d s.instance inst p.place) is_kind
                ∙ ap (λ (o : Shape). mark_at p.place inst.name o ∷ terminal_marks r d s.instance kind p.place 0 kind.terminals) (sym outline_is);
          }

-- the net that begins with a pin
pub begun-none : (d : Netlist) (n : ℕ) → slice_get d.pins n ≡ None → begun_net d n ≡ None
unfolding begun_net
begun-none d n is = ap (begun_at d n) is

pub begun-other : (d : Netlist) (n first : ℕ) (p : Pin) → slice_get d.pins n ≡ Some p → first_pin d.pins p.net ≡ first → (first ≡ n → ⊥) → begun_net d n ≡ None
unfolding begun_net
begun-other d n first p is own other =
    let test : (first_pin d.pins p.net == n) ≡ false = grind (arith, nat_tests) in
    ap (begun_at d n) is ∙ rw test refl

pub begun-some : (d : Netlist) (n : ℕ) (p : Pin) → slice_get d.pins n ≡ Some p → first_pin d.pins p.net ≡ n → begun_net d n ≡ writable_name (slice_get d.nets (p.net - 1))
unfolding begun_net
begun-some d n p is own =
    let test : (first_pin d.pins p.net == n) ≡ true = grind (arith, nat_tests) in
    ap (begun_at d n) is ∙ rw test refl

pub named-true : (name : List ℕ) → is_name name ≡ true → writable_name (Some name) ≡ Some name
named-true name is = rw is refl

pub named-false : (name : List ℕ) → is_name name ≡ false → writable_name (Some name) ≡ None
named-false name is = rw is refl

-- the label at a terminal, by its shape, its pin and the name of the net that begins there
module _ (r : RuleValues) (d : Netlist) (instance : ℕ) (kind : CellKind) (pins : List Shape) (place : Place) (is : IsLabelled r d instance kind pins) (terminal : ℕ) where
  abbrev beside : Option Shape
  beside = shape_beside terminal kind.positions pins

  shape-is : terminal_shape r kind terminal ≡ beside
  unfolding terminal_shape
  shape-is = sym (ap (shape_beside terminal kind.positions) is.pins_are ∙ beside-is (position_shape r kind.height) terminal kind.positions)

  abbrev mark_of : Option Shape → Option ℕ → Option Mark
  mark_of shape pin =
      option_and_then (λ (s : Shape). option_and_then (λ (n : ℕ). option_map (λ (name : List ℕ). mark_at place name s) (begun_net d n)) pin) shape

  mark-parts : terminal_mark r d instance kind place terminal ≡ mark_of beside (pin_at d.pins instance terminal)
  unfolding terminal_mark
  mark-parts = ap (λ (o : Option Shape). mark_of o (pin_at d.pins instance terminal)) shape-is

  pub no-shape : beside ≡ None → terminal_mark r d instance kind place terminal ≡ None
  no-shape none = mark-parts ∙ ap (λ (o : Option Shape). mark_of o (pin_at d.pins instance terminal)) none

  module _ (shape : Shape) (found : beside ≡ Some shape) where
    pub no-pin : pin_at d.pins instance terminal ≡ None → terminal_mark r d instance kind place terminal ≡ None
    no-pin none = mark-parts ∙ ap₂ mark_of found none

    pub one-pin : (pin : ℕ) → pin_at d.pins instance terminal ≡ Some pin
        → terminal_mark r d instance kind place terminal ≡ option_map (λ (name : List ℕ). mark_at place name shape) (begun_net d pin)
    one-pin pin at = mark-parts ∙ ap₂ mark_of found at

    pub shape-near : IsShapeInReach shape
    shape-near = beside-near terminal kind.positions pins shape is.reach found
