use Rattle.row_model.specs.declared.rows.Seat as seats
use Rattle.std.proofs.Common.{◌≡◌, inl, inr, refl, sym, ap, ◌∙◌, subst, ℕ, ◌+◌, ◌<◌, List, [], ◌∷◌, ◌++◌, length, map, Some, Contains, arith}
use Rattle.std.proofs.lemmas.List.Elements.{Contains-append_cases, Contains-append_left, Contains-append_right}
use Rattle.std.proofs.lemmas.Option.{slice_get-get_or, unwrap_or-slice_get}
use Rattle.std.specs.Prelude.{slice_get, unwrap_or}
use Rattle.feed_cells.proofs.FedWidths.{width-cons}
use Rattle.tech_rules.specs.Rules.{RuleValues, ValidRules}
use Rattle.design_model.specs.Netlist.{Netlist}
use Rattle.feed_cells.specs.Fed.{Fed, item_width, items_width, seats_in}
use Rattle.feed_cells.specs.declared.fed.Item.{Item}
use Rattle.feed_cells.specs.declared.fed.Item.TheVariants.{Cell, Feed}
use Rattle.layout_laws.proofs.Seats.{Upright, UprightAt, here, further}
use Rattle.layout_laws.proofs.Uprights.{IsWired}
use Rattle.wire_geom.specs.declared.drawn.Drawn.{Drawn}
use Rattle.channel_stack.proofs.Planned.{item_drawn, item_height, item_wires, outline_drawn, row_at, row_drawn, seat_of, upright_drawn}
use Rattle.std_laws.proofs.Members.{map-cases, map-member, member-cases, member-head, member-tail}

pub row-there : (fed : Fed) (k : ℕ) → k < length fed.rows → slice_get fed.rows k ≡ Some (row_at fed k)
row-there fed k within = slice_get-get_or fed.rows k [] within ∙ ap (λ (items : List Item). Some items) (sym (unwrap_or-slice_get fed.rows k []))

pub row-is : (fed : Fed) (k : ℕ) (items : List Item) → slice_get fed.rows k ≡ Some items → row_at fed k ≡ items
row-is fed k items at = ap (λ o. unwrap_or o []) at

-- an item among others
pub record SplitAt (items : List Item) (item : Item) : Type 0 where
  pub front : List Item
  pub back : List Item
  pub is : items ≡ front ++ item ∷ back

pub split-at : (items : List Item) (item : Item) → Contains items item → SplitAt items item
split-at [] item member = absurd (omega (arith, member.1))
split-at (first ∷ items) item member =
    elim (member-cases first items item member) [
      | inl same ↦ record { front = []; back = items; is = ap (λ (x : Item). x ∷ items) same }
      | inr later ↦
          let rest = split-at items item later in
          record { front = first ∷ rest.front; back = rest.back; is = ap (λ (xs : List Item). first ∷ xs) rest.is }
    ]

pub at-split : (fed : Fed) (k : ℕ) (items : List Item) (item : Item) → slice_get fed.rows k ≡ Some items → (split : SplitAt items item)
    → slice_get fed.rows k ≡ Some (split.front ++ item ∷ split.back)
at-split fed k items item at split = at ∙ ap (λ (xs : List Item). Some xs) split.is

pub among-split : (front back : List Item) (item : Item) → Contains (front ++ item ∷ back) item
among-split front back item = Contains-append_right front (item ∷ back) item (member-head item back)

-- a seat of a row is one of its items
pub seat-item : (items : List Item) (s : seats.Seat) → Contains (seats_in items) s → Contains items (Cell s)
seat-item [] s member = absurd (omega (arith, member.1))
seat-item (Feed net ∷ items) s member = member-tail (Feed net) items (Cell s) (seat-item items s member)
seat-item (Cell t ∷ items) s member =
    elim (member-cases t (seats_in items) s member) [
      | inl same ↦ subst (λ (x : seats.Seat). Contains (Cell t ∷ items) (Cell x)) same (member-head (Cell t) items)
      | inr later ↦ member-tail (Cell t) items (Cell s) (seat-item items s later)
    ]

module _ (r : RuleValues) (d : Netlist) (height : ℕ) where
  -- an item is as wide as its seat
  seat-wide : (item : Item) → (seat_of r d height item).width ≡ item_width d item
  seat-wide (Cell s) = refl
  seat-wide (Feed net) = refl

  further-on : (left : ℕ) (item : Item) (front : List Item) → left + item_width d item + items_width d front ≡ left + items_width d (item ∷ front)
  further-on left item front = omega (arith, width-cons d item front)

  -- an upright of an item stands in its column of the row
  pub upright-stands : (front : List Item) (item : Item) (back : List Item) (left column : ℕ) (upright : Upright) → Contains (seat_of r d height item).uprights upright
      → column ≡ left + items_width d front + upright.column → UprightAt upright column left (map (seat_of r d height) (front ++ item ∷ back))
  upright-stands [] item back left column upright member at = here (seat_of r d height item) member (omega (arith, at))
  upright-stands (first ∷ front) item back left column upright member at =
      further (upright-stands front item back (left + (seat_of r d height first).width) column upright member (omega (arith, at, further-on left first front, seat-wide first)))

  module _ (base : ℕ) where
    -- and its rectangle is one of the row
    pub wire-listed : (front : List Item) (item : Item) (back : List Item) (left from : ℕ) (wire : Upright) → Contains (item_wires r d height item) wire
        → from ≡ left + items_width d front
        → Contains (row_drawn r d base height left (front ++ item ∷ back)) (upright_drawn r base from wire)
    wire-listed [] item back left from wire member at =
        let same : left ≡ from = omega (arith, at) in
        subst (λ (n : ℕ). Contains (row_drawn r d base height left (item ∷ back)) (upright_drawn r base n wire)) same
        (Contains-append_left (item_drawn r d base height left item) (row_drawn r d base height (left + item_width d item) back)
        (upright_drawn r base left wire)
        (member-tail (outline_drawn r base (item_height d height item) left (left + item_width d item)) (map (upright_drawn r base left) (item_wires r d height item))
        (upright_drawn r base left wire) (map-member (upright_drawn r base left) (item_wires r d height item) wire member)))
    wire-listed (first ∷ front) item back left from wire member at =
        Contains-append_right (item_drawn r d base height left first)
        (row_drawn r d base height (left + item_width d first) (front ++ item ∷ back)) (upright_drawn r base from wire)
        (wire-listed front item back (left + item_width d first) from wire member (omega (arith, at, further-on left first front)))

    -- a rectangle of a row is that of a wire of an item
    pub record IsWireOf (left : ℕ) (items : List Item) (a : Drawn) : Type 0 where
      pub front : List Item
      pub item : Item
      pub back : List Item
      pub is : items ≡ front ++ item ∷ back
      pub wire : Upright
      pub member : Contains (item_wires r d height item) wire
      pub from : ℕ
      pub begins : from ≡ left + items_width d front
      pub drawn : a ≡ upright_drawn r base from wire

    module _ (valid : ValidRules r) where
      -- outlines are no wires
      outline-unwired : (a : Drawn) → a.shape.layer ≡ r.outline.layer → IsWired r a → ⊥
      outline-unwired a on (inl (inl wire)) = valid.layers.horizontal_outline (sym wire ∙ on)
      outline-unwired a on (inl (inr wire)) = valid.layers.vertical_outline (sym wire ∙ on)
      outline-unwired a on (inr cut) = valid.layers.cut_outline (sym cut ∙ on)

      pub wire-of : (items : List Item) (left : ℕ) (a : Drawn) → Contains (row_drawn r d base height left items) a → IsWired r a → IsWireOf left items a
      wire-of [] left a member wired = absurd (omega (arith, member.1))
      wire-of (first ∷ items) left a member wired =
          elim (Contains-append_cases (item_drawn r d base height left first) (row_drawn r d base height (left + item_width d first) items) a member) [
            | inl own ↦ elim (member-cases (outline_drawn r base (item_height d height first) left (left + item_width d first))
                (map (upright_drawn r base left) (item_wires r d height first)) a own) [
                  | inl same ↦ absurd (outline-unwired a (ap (λ (x : Drawn). x.shape.layer) (sym same)) wired)
                  | inr upright ↦
                      let found = map-cases (upright_drawn r base left) (item_wires r d height first) a upright in
                      record { front = []; item = first; back = items; is = refl; wire = found.0; member = found.1; from = left; begins = omega arith; drawn = sym found.2 }
                ]
            | inr later ↦
                let rest = wire-of items (left + item_width d first) a later wired in
                record {
                  front = first ∷ rest.front;
                  item = rest.item;
                  back = rest.back;
                  is = ap (λ (xs : List Item). first ∷ xs) rest.is;
                  wire = rest.wire;
                  member = rest.member;
                  from = rest.from;
                  begins = rest.begins ∙ further-on left first rest.front;
                  drawn = rest.drawn;
                }
          ]
