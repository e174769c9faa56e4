use Rattle.geom_core.specs.declared.layout.Cell as layouts
use Rattle.std.proofs.Common.{◌≡◌, refl, ap, sym, ◌∙◌, subst, inl, inr, ℕ, zero, suc, ◌+◌, ◌*◌, ◌<◌, ◌≤◌, List, [], ◌∷◌, ◌++◌, length, Option, Some, None, Contains, arith}
use Rattle.std.proofs.Math.Nat.{mul-le-mul_right}
use Rattle.std.proofs.lemmas.Int.{ints}
use Rattle.std.proofs.lemmas.Bool.{cases_lt}
use Rattle.std.proofs.lemmas.Option.{none-some, slice_get_within}
use Rattle.std.specs.Prelude.{slice_get, unwrap_or, ◌≤ℤ◌}
use Rattle.geom_core.specs.declared.layout.Shape.{Shape}
use Rattle.tech_rules.specs.Rules.{RuleValues, ValidRules}
use Rattle.design_model.specs.Netlist.{Netlist, IsNetlist}
use Rattle.design_model.specs.Room.{HasRoom}
use Rattle.design_model.specs.declared.design.Inst.{Inst}
use Rattle.channel_model.specs.declared.wiring.Wiring.{Wiring}
use Rattle.wire_geom.specs.Drawing.{drawing}
use Rattle.wire_geom.specs.Grid.{scaled}
use Rattle.wire_geom.specs.declared.drawn.Drawn.{Drawn}
use Rattle.row_model.specs.Stands.{row_of}
use Rattle.feed_cells.specs.Fed.{Fed, IsFed, cells_in}
use Rattle.feed_cells.specs.declared.fed.Item.TheVariants.{Cell}
use Rattle.layout_laws.proofs.Plans.{drawn_to, plan_drawn, row_base}
use Rattle.channel_stack.specs.RowEdges.{IsInHighestRow, IsInLowestRow}
use Rattle.channel_stack.proofs.LayoutRows.{AreUpright, IsOutline, drawing-wires, full-in, items-low, risers-upright}
use Rattle.channel_stack.proofs.LayoutShapes.{full_row, stack-shapes, stack_layout}
use Rattle.channel_stack.proofs.LayoutShows.{IsCellOf, cell-is}
use Rattle.channel_stack.proofs.PlanBases.{bases-next}
use Rattle.channel_stack.proofs.Planned.{plan_of, risers_at, risers_in, row_at, wiring_at}
use Rattle.channel_stack.proofs.SeatOnce.{seat-row}
use Rattle.std_laws.proofs.Every.{every-get}
use Rattle.std_laws.proofs.Members.{member-place}
use Rattle.std_laws.proofs.Places.{get-either, map-get}

module _ (r : RuleValues) (valid : ValidRules r) (d : Netlist) (fed : Fed) (from : IsFed d fed) (ws : List Wiring) (each : length ws ≡ length fed.rows + 1) where
  -- a row begins no higher than the next
  next-row : (k : ℕ) → k < length fed.rows → row_base r (plan_of r d fed ws) k ≤ row_base r (plan_of r d fed ws) (suc k)
  next-row k within = omega (arith, bases-next r d 0 ws fed.rows k within (omega (arith, within, each)))

  pub rows-rise : (j k : ℕ) → j ≤ k → k ≤ length fed.rows → row_base r (plan_of r d fed ws) j ≤ row_base r (plan_of r d fed ws) k
  rows-rise j zero before within = let same : j ≡ zero = omega (arith, before) in rw same (omega arith)
  rows-rise j (suc k) before within = elim (cases_lt j (suc k)) [
    | inl less ↦ omega (arith, rows-rise j k (omega (arith, less)) (omega (arith, within)), next-row k (omega (arith, within)))
    | inr more ↦ (let same : j ≡ suc k = omega (arith, before, more) in rw same (omega arith))
  ]

  -- an outline begins where a row does
  record BeginsInRow (n : ℕ) (a : Drawn) : Type 0 where
    pub row : ℕ
    pub within : row < n
    pub low : a.shape.rect.y0 ≡ scaled r (2 * row_base r (plan_of r d fed ws) row)

  upright-at : (k : ℕ) → AreUpright r valid d (risers_at (risers_in r d fed ws) k)
  upright-at k = by (slice_get (risers_in r d fed ws) k) refl
    where
      by : (o : Option (List Drawn)) → slice_get (risers_in r d fed ws) k ≡ o → AreUpright r valid d (unwrap_or o [])
      by None at = λ a member. let none = member-place [] a member in absurd (none-some a none.1)
      by (Some rise) at = every-get (AreUpright r valid d) (risers_in r d fed ws) k rise (risers-upright r valid d fed ws from each) at

  outline-row : (n : ℕ) → n ≤ length fed.rows → (i : ℕ) (a : Drawn) → slice_get (drawn_to r (plan_of r d fed ws) n) i ≡ Some a → IsOutline r a → BeginsInRow n a
  outline-row zero within i a at out = absurd (drawing-wires r valid ((plan_of r d fed ws).base 0) (wiring_at ws 0) i a at out)
  outline-row (suc n) within i a at out =
      let below : List Drawn = drawn_to r (plan_of r d fed ws) n in
      let base : ℕ = row_base r (plan_of r d fed ws) n in
      let row : List Drawn = full_row r d base (row_at fed n) (risers_at (risers_in r d fed ws) n) in
      let channel : List Drawn = drawing r ((plan_of r d fed ws).base (suc n)) (wiring_at ws (suc n)) in
      elim (get-either below (row ++ channel) i a at) [
        | inl here ↦ (let found = outline-row n (omega (arith, within)) i a here out in record { row = found.row; within = omega (arith, found.within); low = found.low })
        | inr there ↦ elim (get-either row channel there.0 a there.2) [
          | inl low ↦ record {
            row = n;
            within = omega arith;
            low = (full-in r valid d base (row_at fed n) (risers_at (risers_in r d fed ws) n) (items-low r valid d (row_at fed n)) (upright-at n) there.0 a low out).low;
          }
          | inr high ↦ absurd (drawing-wires r valid ((plan_of r d fed ws).base (suc n)) (wiring_at ws (suc n)) high.0 a high.2 out)
        ]
      ]

-- a greater base is greater in half centimicrons
scaled-up : (r : RuleValues) (a b : ℕ) → a ≤ b → scaled r (2 * a) ≤ℤ scaled r (2 * b)
scaled-up r a b le = let product : (2 * a) * r.grid.centi ≤ (2 * b) * r.grid.centi = mul-le-mul_right {m = 2 * a} {n = 2 * b} r.grid.centi (omega (arith, le)) in omega (arith, ints)

module _ (r : RuleValues) (valid : ValidRules r) (d : Netlist) (is : IsNetlist d) (room : HasRoom r d)
    (fed : Fed) (from : IsFed d fed) (ws : List Wiring) (each : length ws ≡ length fed.rows + 1) where
  -- each outline of the layout begins where a row does
  layout-outline : (s : Shape) → Contains (stack_layout r d fed ws).shapes s → s.layer ≡ r.outline.layer
      → (k : ℕ) × ((k < length fed.rows) × (s.rect.y0 ≡ scaled r (2 * row_base r (plan_of r d fed ws) k)))
  layout-outline s listed out =
      let shapes = stack-shapes r valid d is room fed from ws each in
      let place = member-place (stack_layout r d fed ws).shapes s listed in
      let plan : List Drawn = plan_drawn r (plan_of r d fed ws) in
      let a = map-get (λ (x : Drawn). x.shape) plan place.0 s (subst (λ (l : List Shape). slice_get l place.0 ≡ Some s) shapes place.1) in
      let found = outline-row r valid d fed from ws each (length fed.rows) (omega arith) place.0 a.0 a.1 (ap (λ (x : Shape). x.layer) a.2 ∙ out) in
      (found.row, (found.within, ap (λ (x : Shape). x.rect.y0) (sym a.2) ∙ found.low))

  -- the cell of an instance stands where the instance's row begins
  record StandsInRow (instance : ℕ) (copy : layouts.Cell) : Type 0 where
    pub within : row_of d (cells_in fed.rows) instance < length fed.rows
    pub low : copy.turn.dy ≡ scaled r (2 * row_base r (plan_of r d fed ws) (row_of d (cells_in fed.rows) instance))

  cell-stands-in : (number instance : ℕ) (copy : layouts.Cell) (inst : Inst) → slice_get (stack_layout r d fed ws).cells number ≡ Some copy
      → slice_get d.instances instance ≡ Some inst → copy.name ≡ inst.name → StandsInRow instance copy
  cell-stands-in number instance copy inst at_cell at_instance named =
      let c : IsCellOf r d fed ws number instance copy inst = cell-is r valid d is room fed from ws each number instance copy inst at_cell at_instance named in
      let row : row_of d (cells_in fed.rows) c.seat.instance ≡ c.row =
      seat-row d (cells_in fed.rows) from.placed c.row c.front c.back c.seat (subst (λ (f : Fed). slice_get f.rows c.row ≡ Some (c.front ++ Cell c.seat ∷ c.back)) from.is c.at) in
      let same : c.row ≡ row_of d (cells_in fed.rows) instance = sym row ∙ ap (row_of d (cells_in fed.rows)) c.own in
      record {
        within = subst (λ (k : ℕ). k < length fed.rows) same (slice_get_within fed.rows c.row (c.front ++ Cell c.seat ∷ c.back) c.at);
        low = ap (λ (x : layouts.Cell). x.turn.dy) c.is ∙ ap (λ (k : ℕ). scaled r (2 * row_base r (plan_of r d fed ws) k)) same;
      }

  -- the cell of an instance of the lowest row stands in the lowest row
  pub stack-lowest : (instance : ℕ) (copy : layouts.Cell) (inst : Inst) → Contains (stack_layout r d fed ws).cells copy → slice_get d.instances instance ≡ Some inst
      → copy.name ≡ inst.name → row_of d (cells_in fed.rows) instance ≡ 0 → IsInLowestRow r (stack_layout r d fed ws) copy
  stack-lowest instance copy inst listed at_instance named lowest = λ s shown out.
      let place = member-place (stack_layout r d fed ws).cells copy listed in
      let stands : StandsInRow instance copy = cell-stands-in place.0 instance copy inst place.1 at_instance named in
      let outline = layout-outline s shown out in
      let rise = rows-rise r valid d fed from ws each (row_of d (cells_in fed.rows) instance) outline.0 (omega (arith, lowest)) (omega (arith, outline.1.0)) in
      rw (stands.low, outline.1.1) (scaled-up r _ _ rise)

  -- and that of one of the highest row in the highest
  pub stack-highest : (instance : ℕ) (copy : layouts.Cell) (inst : Inst) → Contains (stack_layout r d fed ws).cells copy → slice_get d.instances instance ≡ Some inst
      → copy.name ≡ inst.name → row_of d (cells_in fed.rows) instance + 1 ≡ length fed.rows → IsInHighestRow r (stack_layout r d fed ws) copy
  stack-highest instance copy inst listed at_instance named highest = λ s shown out.
      let place = member-place (stack_layout r d fed ws).cells copy listed in
      let stands : StandsInRow instance copy = cell-stands-in place.0 instance copy inst place.1 at_instance named in
      let outline = layout-outline s shown out in
      let rise = rows-rise r valid d fed from ws each outline.0 (row_of d (cells_in fed.rows) instance) (omega (arith, highest, outline.1.0)) (omega (arith, stands.within)) in
      rw (stands.low, outline.1.1) (scaled-up r _ _ rise)
