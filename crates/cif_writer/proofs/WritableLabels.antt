use Rattle.feed_cells.specs.declared.fed.Item as items
use Rattle.std.proofs.Common.{◌≡◌, ℕ, suc, ◌-◌, List, [], ◌∷◌, map, Bool, true, false, Option, Some, None, ℤ, pos, negsuc, refl, sym, arith}
use Rattle.std.proofs.lemmas.Int.{ints}
use Rattle.std.proofs.lemmas.List.Elements.{recursion_from_All}
use Rattle.std.specs.List.{AllByRecursion, find}
use Rattle.std.specs.Option.{option_and_then, option_to_list}
use Rattle.std.specs.Prelude.{◌==◌, ◌≤ℤ◌, if◌then◌else◌, option_map, slice_get}
use Rattle.geom_core.specs.LayerText.{is_layer_text}
use Rattle.geom_core.specs.Moving.{moved_shape, turn_at}
use Rattle.geom_core.specs.Names.{IsName, is_name}
use Rattle.geom_core.specs.Reach.{IsInReach, IsShapeInReach}
use Rattle.geom_core.specs.declared.layout.Shape.{Shape}
use Rattle.geom_core.specs.declared.turn.Place.{Place}
use Rattle.tech_rules.specs.Rules.{RuleValues, ValidRules}
use Rattle.design_model.specs.Drawing.{outline_shape, position_shape}
use Rattle.design_model.specs.Netlist.{IsKind, IsNetlist, Netlist}
use Rattle.design_model.specs.declared.design.CellKind.{CellKind}
use Rattle.design_model.specs.declared.design.Inst.{Inst}
use Rattle.design_model.specs.declared.design.Pin.{Pin}
use Rattle.design_model.specs.declared.design.Position.{Position}
use Rattle.design_model.specs.declared.design.Terminal.{Terminal}
use Rattle.feed_cells.specs.declared.fed.Item.TheVariants.{Cell, Feed}
use Rattle.channel_stack.specs.declared.placed.PlacedItem.{PlacedItem}
use Rattle.cif_text.proofs.WrittenLayout.{IsItem, IsLabel, IsWhole}
use Rattle.cif_text.specs.Scales.{doubled}
use Rattle.cif_text.specs.Symbols.{Symbol}
use Rattle.cif_writer.specs.InReach.{IsPlaceInReach}
use Rattle.cif_writer.specs.LabelParts.{IsExtentInTwiceReach}
use Rattle.cif_writer.specs.Labels.{Mark, begun_at, begun_net, first_pin, instance_marks, item_marks, kind_marks, label_of, mark_at, pin_at, placed_marks, terminal_mark, terminal_marks, terminal_shape, writable_name}
use Rattle.cif_writer.proofs.DrawingReach.{drawing-in-reach}
use Rattle.cif_writer.proofs.NearMiddles.{middle-in-reach, placed-near}
use Rattle.cif_writer.proofs.WritableSymbols.{name-is}
use Rattle.std_laws.proofs.Every.{every-append, every-get, every-map}

-- a place that is whole in centimicrons lies within reach
doubled-in-reach : (z dz : ℤ) → doubled z ≡ dz → negsuc 999999999999 ≤ℤ z → z ≤ℤ pos 1000000000000 → IsInReach dz
doubled-in-reach z dz twice low high = record { low = omega (arith, ints); high = omega (arith, ints) }

pub whole-place : (place : Place) → IsWhole place → IsPlaceInReach place
whole-place place whole = record {
  across = doubled-in-reach whole.across place.dx whole.across_is whole.across_near.low whole.across_near.high;
  up = doubled-in-reach whole.up place.dy whole.up_is whole.up_near.low whole.up_near.high;
}

-- a label in a shape of a cell's drawing can be written
abbrev pub IsMark : Mark → Type 0
IsMark m = IsLabel m.name m.shape

mark-is : (place : Place) (name : List ℕ) (s : Shape) → IsPlaceInReach place → IsName name → is_layer_text s.layer ≡ true → IsShapeInReach s → IsMark (mark_at place name s)
mark-is place name s at named layer near =
    let moved : IsExtentInTwiceReach (moved_shape (turn_at place) s).rect = placed-near place s at near in
    record {
      named = name-is name named;
      layer = layer;
      across = middle-in-reach (moved_shape (turn_at place) s).rect.x0 (moved_shape (turn_at place) s).rect.x1 moved.x0 moved.x1;
      up = middle-in-reach (moved_shape (turn_at place) s).rect.y0 (moved_shape (turn_at place) s).rect.y1 moved.y0 moved.y1;
    }

-- the name of a net that can be written
writable-is : (o : Option (List ℕ)) (name : List ℕ) → writable_name o ≡ Some name → IsName name
writable-is None name found = cc
writable-is (Some text) name found = by (is_name text) refl found
  where
    by : (b : Bool) → is_name text ≡ b → (if b then Some text else None) ≡ Some name → IsName name
    by true is found = let same : text ≡ name = cc in rw (sym same) is
    by false is found = cc

begun-is : (d : Netlist) (n : ℕ) (o : Option Pin) (name : List ℕ) → begun_at d n o ≡ Some name → IsName name
begun-is d n None name found = cc
begun-is d n (Some p) name found = by (first_pin d.pins p.net == n) found
  where
    by : (b : Bool) → (if b then writable_name (slice_get d.nets (p.net - 1)) else None) ≡ Some name → IsName name
    by true found = writable-is (slice_get d.nets (p.net - 1)) name found
    by false found = cc

begun-named : (d : Netlist) (n : ℕ) (name : List ℕ) → begun_net d n ≡ Some name → IsName name
unfolding begun_net
begun-named d n name found = begun-is d n (slice_get d.pins n) name found

module _ (r : RuleValues) (d : Netlist) (valid : ValidRules r) (good : IsNetlist d) (place : Place) (at : IsPlaceInReach place) where
  -- the label of a net in a shape, if there is one
  net-is : (s : Shape) → is_layer_text s.layer ≡ true → IsShapeInReach s → (pin : ℕ)
      → AllByRecursion IsMark (option_to_list (option_map (λ (name : List ℕ). mark_at place name s) (begun_net d pin)))
  net-is s layer near pin = by (begun_net d pin) refl
    where
      by : (o : Option (List ℕ)) → begun_net d pin ≡ o → AllByRecursion IsMark (option_to_list (option_map (λ (name : List ℕ). mark_at place name s) o))
      by None is = tt
      by (Some name) is = (mark-is place name s at (begun-named d pin name is) layer near, tt)

  shape-marks-are : (s : Shape) → is_layer_text s.layer ≡ true → IsShapeInReach s → (pin : Option ℕ)
      → AllByRecursion IsMark (option_to_list (option_and_then (λ (n : ℕ). option_map (λ (name : List ℕ). mark_at place name s) (begun_net d n)) pin))
  shape-marks-are s layer near None = tt
  shape-marks-are s layer near (Some n) = net-is s layer near n

  module _ (instance : ℕ) (kind : CellKind) (is : IsKind kind) where
    position-layer : (p : Position) → is_layer_text (position_shape r kind.height p).layer ≡ true
    unfolding position_shape
    position-layer p = valid.ranges.vertical.layer

    position-near : (ps : List Position) (p : Position) → AllByRecursion IsShapeInReach (map (position_shape r kind.height) ps)
        → (test : Position → Bool) → find test ps ≡ Some p → IsShapeInReach (position_shape r kind.height p)
    position-near [] p near test found = cc
    position-near (q ∷ ps) p near test found = by (test q) found (position-near ps p near.1 test)
      where
        by : (b : Bool) → (if b then Some q else find test ps) ≡ Some p → (find test ps ≡ Some p → IsShapeInReach (position_shape r kind.height p))
            → IsShapeInReach (position_shape r kind.height p)
        by true here more = let same : q ≡ p = cc in rw (sym same) near.0
        by false here more = more here

    terminal-is : (n : ℕ) → AllByRecursion IsMark (option_to_list (terminal_mark r d instance kind place n))
    unfolding terminal_mark terminal_shape
    terminal-is n = by (find (λ (p : Position). p.terminal == n) kind.positions) refl
      where
        by : (o : Option Position) → find (λ (p : Position). p.terminal == n) kind.positions ≡ o
            → AllByRecursion IsMark (option_to_list (option_and_then (λ (shape : Shape). option_and_then (λ (pin : ℕ). option_map (λ (name : List ℕ). mark_at place name shape) (begun_net d pin))
            (pin_at d.pins instance n)) (option_map (position_shape r kind.height) o)))
        by None found = tt
        by (Some p) found =
            shape-marks-are (position_shape r kind.height p) (position-layer p)
            (position-near kind.positions p (drawing-in-reach r kind valid is).1 (λ (p : Position). p.terminal == n) found) (pin_at d.pins instance n)

    terminals-are : (n : ℕ) (ts : List Terminal) → AllByRecursion IsMark (terminal_marks r d instance kind place n ts)
    terminals-are n [] = tt
    terminals-are n (t ∷ ts) =
        every-append IsMark (option_to_list (terminal_mark r d instance kind place n)) (terminal_marks r d instance kind place (suc n) ts)
        (terminal-is n) (terminals-are (suc n) ts)

  outline-layer : (kind : CellKind) → is_layer_text (outline_shape r kind).layer ≡ true
  unfolding outline_shape
  outline-layer kind = valid.ranges.outline.layer

  kind-are : (instance : ℕ) (inst : Inst) → IsName inst.name → (o : Option CellKind) → ((k : CellKind) → o ≡ Some k → IsKind k)
      → AllByRecursion IsMark (kind_marks r d instance inst place o)
  kind-are instance inst named None each = tt
  kind-are instance inst named (Some kind) each = (
    mark-is place inst.name (outline_shape r kind) at named (outline-layer kind) (drawing-in-reach r kind valid (each kind refl)).0,
    terminals-are instance kind (each kind refl) 0 kind.terminals,
  )

  instance-are : (instance : ℕ) (o : Option Inst) → slice_get d.instances instance ≡ o → AllByRecursion IsMark (instance_marks r d instance place o)
  instance-are instance None found = tt
  instance-are instance (Some inst) found =
      kind-are instance inst
      (every-get (λ (i : Inst). IsName i.name) d.instances instance inst (recursion_from_All (λ (i : Inst). IsName i.name) d.instances good.instance_names) found)
      (slice_get d.kinds inst.kind)
      (λ k there. every-get IsKind d.kinds inst.kind k (recursion_from_All IsKind d.kinds good.kinds) there)

  placed-are : (item : items.Item) → AllByRecursion IsMark (placed_marks r d item place)
  placed-are (Cell s) = instance-are s.instance (slice_get d.instances s.instance) refl
  placed-are (Feed net) = tt

-- the labels of an item at a place within reach can be written
pub marks-are : (labels : Bool) (symbols : List Symbol) (r : RuleValues) (d : Netlist) → ValidRules r → IsNetlist d → (p : PlacedItem) → IsPlaceInReach p.place
    → AllByRecursion (IsItem symbols) (map label_of (item_marks labels r d p))
marks-are false symbols r d valid good p at = tt
marks-are true symbols r d valid good p at =
    every-map (IsItem symbols) label_of (placed_marks r d p.item p.place) (placed-are r d valid good p.place at p.item)
