use Rattle.std.proofs.Common.{◌≡◌, inl, inr, refl, sym, ap, ◌∙◌, subst, ℕ, zero, suc, ◌+◌, ◌-◌, ◌<◌, ◌≤◌, List, [], ◌∷◌, ◌++◌, length, take, drop, Bool, true, false, cond, Contains, arith}
use Rattle.std.proofs.lemmas.Bool.Decides.{nat_tests}
use Rattle.std.proofs.lemmas.List.{get_or-drop, get_or-take, length-drop, length-take-le}
use Rattle.std.proofs.lemmas.List.Elements.{Contains-append_cases, Contains-append_left, Contains-append_right}
use Rattle.std.specs.Prelude.{nat_lt, slice_index}
use Rattle.tech_rules.specs.Rules.{RuleValues}
use Rattle.design_model.specs.Netlist.{Netlist}
use Rattle.row_model.specs.Widths.{cell_height, columns_of}
use Rattle.row_model.specs.declared.rows.Seat.{Seat}
use Rattle.feed_cells.specs.Fed.{item_width, items_width}
use Rattle.feed_cells.specs.declared.fed.Item.{Item}
use Rattle.feed_cells.specs.declared.fed.Item.TheVariants.{Cell, Feed}
use Rattle.feed_cells.proofs.FedWidths.{width-cons}
use Rattle.wire_geom.specs.Drawing.{upright}
use Rattle.wire_geom.specs.declared.drawn.Drawn.{Drawn}
use Rattle.channel_stack.specs.Risers.{item_risers, risers_along, risers_over}
use Rattle.std_laws.proofs.Members.{member-cases, member-head, member-none, member-tail}

-- a test that holds is true
below-true : (a b : ℕ) → a < b → nat_lt a b ≡ true
below-true a b below = grind (arith, nat_tests)

true-below : (a b : ℕ) → nat_lt a b ≡ true → a < b
true-below a b test = grind (arith, nat_tests)

module _ (r : RuleValues) (low high : ℕ) where
  -- a riser over columns stands over one of them, in which its net enters
  pub record RisesOver (first : ℕ) (nets : List ℕ) (a : Drawn) : Type 0 where
    pub column : ℕ
    pub within : column < length nets
    pub some : 0 < a.net
    pub there : slice_index nets column ≡ a.net
    pub is : a ≡ upright r low high (first + column) a.net

  rises-later : (first net : ℕ) (nets : List ℕ) (a : Drawn) → RisesOver (first + 1) nets a → RisesOver first (net ∷ nets) a
  rises-later first net nets a o =
      let place : first + 1 + o.column ≡ first + suc o.column = omega arith in
      record {
        column = suc o.column;
        within = omega (arith, o.within);
        some = o.some;
        there = o.there;
        is = o.is ∙ ap (λ (n : ℕ). upright r low high n a.net) place;
      }

  over-of : (first : ℕ) (nets : List ℕ) (a : Drawn) → Contains (risers_over r low high first nets) a → RisesOver first nets a
  over-of first [] a member = absurd (member-none a member)
  over-of first (zero ∷ nets) a member = rises-later first 0 nets a (over-of (first + 1) nets a member)
  over-of first (suc net ∷ nets) a member =
      elim (member-cases (upright r low high first (suc net)) (risers_over r low high (first + 1) nets) a member) [
        | inl same ↦
            let place : first ≡ first + 0 = omega arith in
            subst (RisesOver first (suc net ∷ nets)) same (record {
              column = 0;
              within = omega arith;
              some = omega arith;
              there = refl;
              is = ap (λ (n : ℕ). upright r low high n (suc net)) place;
            })
        | inr later ↦ rises-later first (suc net) nets a (over-of (first + 1) nets a later)
      ]

  -- and each net that enters has a riser
  over-listed : (first : ℕ) (nets : List ℕ) (column net : ℕ) → column < length nets → 0 < net → slice_index nets column ≡ net
      → Contains (risers_over r low high first nets) (upright r low high (first + column) net)
  over-listed first [] column net within some there = absurd (omega (arith, within))
  over-listed first (zero ∷ nets) zero net within some there = absurd (omega (arith, some, there))
  over-listed first (zero ∷ nets) (suc column) net within some there =
      let place : first + 1 + column ≡ first + suc column = omega arith in
      subst (λ (n : ℕ). Contains (risers_over r low high (first + 1) nets) (upright r low high n net)) place
      (over-listed (first + 1) nets column net (omega (arith, within)) some there)
  over-listed first (suc own ∷ nets) zero net within some there =
      let place : first ≡ first + 0 = omega arith in
      subst (λ (n : ℕ). Contains (risers_over r low high first (suc own ∷ nets)) (upright r low high (first + 0) n)) there
      (subst (λ (n : ℕ). Contains (risers_over r low high first (suc own ∷ nets)) (upright r low high n (suc own))) place
      (member-head (upright r low high first (suc own)) (risers_over r low high (first + 1) nets)))
  over-listed first (suc own ∷ nets) (suc column) net within some there =
      let place : first + 1 + column ≡ first + suc column = omega arith in
      member-tail (upright r low high first (suc own)) (risers_over r low high (first + 1) nets) (upright r low high (first + suc column) net)
      (subst (λ (n : ℕ). Contains (risers_over r low high (first + 1) nets) (upright r low high n net)) place
      (over-listed (first + 1) nets column net (omega (arith, within)) some there))

module _ (r : RuleValues) (d : Netlist) (base height : ℕ) where
  -- the riser of a cell in a column of its row
  abbrev pub cell_riser : Seat → ℕ → ℕ → Drawn
  cell_riser s column net = upright r (base + (cell_height d s.instance - r.grid.pin)) (base + height) column net

  -- a riser of items side by side, which begin in column `left`, is that of a cell among them, over which its net enters
  pub record RisesAlong (left : ℕ) (nets : List ℕ) (items : List Item) (a : Drawn) : Type 0 where
    pub front : List Item
    pub seat : Seat
    pub back : List Item
    pub among : items ≡ front ++ Cell seat ∷ back
    pub lower : cell_height d seat.instance < height
    pub column : ℕ
    pub within : column < columns_of d seat.instance
    pub some : 0 < a.net
    pub there : slice_index nets (items_width d front + column) ≡ a.net
    pub is : a ≡ cell_riser seat (left + items_width d front + column) a.net

  cell-along : (left : ℕ) (nets : List ℕ) (s : Seat) (items : List Item) (a : Drawn) → columns_of d s.instance ≤ length nets
      → Contains (item_risers r d base height left (take (columns_of d s.instance) nets) (Cell s)) a → RisesAlong left nets (Cell s ∷ items) a
  cell-along left nets s items a wide = by (nat_lt (cell_height d s.instance) height) refl
    where
      own : List ℕ
      own = take (columns_of d s.instance) nets

      by : (b : Bool) → nat_lt (cell_height d s.instance) height ≡ b
          → Contains (cond b (risers_over r (base + (cell_height d s.instance - r.grid.pin)) (base + height) left own) []) a → RisesAlong left nets (Cell s ∷ items) a
      by false test member = absurd (member-none a member)
      by true test member =
          let o = over-of r (base + (cell_height d s.instance - r.grid.pin)) (base + height) left own a member in
          let inside : o.column < columns_of d s.instance = omega (arith, o.within, length-take-le (columns_of d s.instance) nets wide) in
          let place : left + o.column ≡ left + items_width d [] + o.column = omega arith in
          let first : items_width d [] + o.column ≡ o.column = omega arith in
          record {
            front = [];
            seat = s;
            back = items;
            among = refl;
            lower = true-below (cell_height d s.instance) height test;
            column = o.column;
            within = inside;
            some = o.some;
            there = ap (slice_index nets) first ∙ sym (get_or-take (columns_of d s.instance) nets o.column 0 inside) ∙ o.there;
            is = o.is ∙ ap (λ (n : ℕ). cell_riser s n a.net) place;
          }

  pub along-of : (left : ℕ) (nets : List ℕ) (items : List Item) (a : Drawn) → items_width d items ≤ length nets → Contains (risers_along r d base height left nets items) a
      → RisesAlong left nets items a
  along-of left nets [] a wide member = absurd (member-none a member)
  along-of left nets (item ∷ items) a wide member =
      let width : items_width d (item ∷ items) ≡ item_width d item + items_width d items = width-cons d item items in
      elim (Contains-append_cases (item_risers r d base height left (take (item_width d item) nets) item)
      (risers_along r d base height (left + item_width d item) (drop (item_width d item) nets) items) a member) [
        | inl own ↦ by item (omega (arith, wide, width)) own
        | inr later ↦
            let rest = along-of (left + item_width d item) (drop (item_width d item) nets) items a (omega (arith, wide, width, length-drop (item_width d item) nets)) later in
            let further : items_width d (item ∷ rest.front) ≡ item_width d item + items_width d rest.front = width-cons d item rest.front in
            let place : item_width d item + (items_width d rest.front + rest.column) ≡ items_width d (item ∷ rest.front) + rest.column = omega (arith, further) in
            let from : left + item_width d item + items_width d rest.front + rest.column ≡ left + items_width d (item ∷ rest.front) + rest.column = omega (arith, further) in
            record {
              front = item ∷ rest.front;
              seat = rest.seat;
              back = rest.back;
              among = ap (λ (l : List Item). item ∷ l) rest.among;
              lower = rest.lower;
              column = rest.column;
              within = rest.within;
              some = rest.some;
              there = ap (slice_index nets) (sym place) ∙ sym (get_or-drop (item_width d item) nets (items_width d rest.front + rest.column) 0) ∙ rest.there;
              is = rest.is ∙ ap (λ (n : ℕ). cell_riser rest.seat n a.net) from;
            }
      ]
    where
      by : (item : Item) → item_width d item ≤ length nets → Contains (item_risers r d base height left (take (item_width d item) nets) item) a
          → RisesAlong left nets (item ∷ items) a
      by (Cell s) room own = cell-along left nets s items a room own
      by (Feed net) room own = absurd (member-none a own)

  -- and each net that enters over a cell lower than the row has a riser
  pub along-listed : (left : ℕ) (nets : List ℕ) (front : List Item) (s : Seat) (back : List Item) (column net : ℕ) → items_width d (front ++ Cell s ∷ back) ≤ length nets
      → cell_height d s.instance < height → column < columns_of d s.instance → 0 < net → slice_index nets (items_width d front + column) ≡ net
      → Contains (risers_along r d base height left nets (front ++ Cell s ∷ back)) (cell_riser s (left + items_width d front + column) net)
  along-listed left nets [] s back column net wide lower within some there =
      let room : columns_of d s.instance ≤ length nets = omega (arith, wide, width-cons d (Cell s) back) in
      let own : List ℕ = take (columns_of d s.instance) nets in
      let place : left + column ≡ left + items_width d [] + column = omega arith in
      let first : column ≡ items_width d [] + column = omega arith in
      let listed =
      over-listed r (base + (cell_height d s.instance - r.grid.pin)) (base + height) left own column net
      (omega (arith, within, length-take-le (columns_of d s.instance) nets room)) some (get_or-take (columns_of d s.instance) nets column 0 within ∙ ap (slice_index nets) first ∙ there) in
      Contains-append_left (item_risers r d base height left own (Cell s)) (risers_along r d base height (left + columns_of d s.instance) (drop (columns_of d s.instance) nets) back)
      (cell_riser s (left + items_width d [] + column) net)
      (subst (λ (n : ℕ). Contains (item_risers r d base height left own (Cell s)) (cell_riser s n net)) place
      (subst (λ (b : Bool). Contains (cond b (risers_over r (base + (cell_height d s.instance - r.grid.pin)) (base + height) left own) []) (cell_riser s (left + column) net))
      (sym (below-true (cell_height d s.instance) height lower)) listed))
  along-listed left nets (item ∷ front) s back column net wide lower within some there =
      let width : items_width d (item ∷ (front ++ Cell s ∷ back)) ≡ item_width d item + items_width d (front ++ Cell s ∷ back) = width-cons d item (front ++ Cell s ∷ back) in
      let further : items_width d (item ∷ front) ≡ item_width d item + items_width d front = width-cons d item front in
      let place : item_width d item + (items_width d front + column) ≡ items_width d (item ∷ front) + column = omega (arith, further) in
      let from : left + item_width d item + items_width d front + column ≡ left + items_width d (item ∷ front) + column = omega (arith, further) in
      Contains-append_right (item_risers r d base height left (take (item_width d item) nets) item)
      (risers_along r d base height (left + item_width d item) (drop (item_width d item) nets) (front ++ Cell s ∷ back))
      (cell_riser s (left + items_width d (item ∷ front) + column) net)
      (subst (λ (n : ℕ). Contains (risers_along r d base height (left + item_width d item) (drop (item_width d item) nets) (front ++ Cell s ∷ back)) (cell_riser s n net)) from
      (along-listed (left + item_width d item) (drop (item_width d item) nets) front s back column net (omega (arith, wide, width, length-drop (item_width d item) nets)) lower within some
      (get_or-drop (item_width d item) nets (items_width d front + column) 0 ∙ ap (slice_index nets) place ∙ there)))
