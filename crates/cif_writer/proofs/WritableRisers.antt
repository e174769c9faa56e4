use Rattle.std.proofs.Common.{◌≡◌, sym, ap, subst, ℕ, zero, suc, ◌+◌, ◌<◌, ◌≤◌, List, [], ◌∷◌, ◌++◌, length, Contains, arith}
use Rattle.std.specs.List.{AllByRecursion}
use Rattle.std.specs.Prelude.{slice_index, unwrap_or}
use Rattle.std.proofs.lemmas.Option.{slice_get_within}
use Rattle.tech_rules.specs.Rules.{RuleValues, ValidRules}
use Rattle.design_model.specs.Netlist.{Netlist}
use Rattle.channel_model.specs.declared.wiring.Wiring.{Wiring}
use Rattle.feed_cells.specs.Fed.{Fed, IsFed, item_width, items_width}
use Rattle.feed_cells.specs.declared.fed.Item.{Item}
use Rattle.feed_cells.specs.declared.fed.Item.TheVariants.{Cell}
use Rattle.feed_cells.proofs.FedWidths.{width-cons}
use Rattle.layout_laws.specs.Heights.{channel_height}
use Rattle.wire_geom.specs.Boxes.{upright_box}
use Rattle.wire_geom.specs.Drawing.{on_vertical}
use Rattle.wire_geom.specs.declared.drawn.Drawn.{Drawn}
use Rattle.channel_stack.specs.Routed.{IsRouted}
use Rattle.channel_stack.specs.Stack.{row_bases, stack_top}
use Rattle.channel_stack.proofs.LayoutShapes.{risers-each}
use Rattle.channel_stack.proofs.Planned.{risers_at, risers_in}
use Rattle.channel_stack.proofs.RowRisers.{row-floor, row-tall, riser-of}
use Rattle.channel_stack.proofs.StackBounds.{IsBounded, bases-within, base-below, heights-counted}
use Rattle.cif_writer.proofs.WritableSymbols.{wire-narrow}
use Rattle.cif_writer.proofs.WritableWires.{IsWire, centre-within, piece-is}
use Rattle.std_laws.proofs.Every.{every-from-get, every-get}
use Rattle.std_laws.proofs.Members.{get-contains}

-- a row ends within the stack
row-top : (r : RuleValues) (heights : List ℕ) (base : ℕ) (ws : List Wiring) (k : ℕ) → k < length heights → length ws ≡ length heights + 1
    → slice_index (row_bases r heights base ws) k + slice_index heights k ≤ stack_top r heights base ws
row-top r [] base ws k within each = absurd (omega (arith, within))
row-top r (h ∷ heights) base [] k within each = absurd (omega (arith, each))
row-top r (h ∷ heights) base (w ∷ ws) zero within each = base-below r heights (base + channel_height r w + h) ws
row-top r (h ∷ heights) base (w ∷ ws) (suc k) within each = row-top r heights (base + channel_height r w + h) ws k (omega (arith, within)) (omega (arith, each))

-- an item ends within its row
item-ends : (d : Netlist) (front : List Item) (item : Item) (back : List Item) → items_width d front + item_width d item ≤ items_width d (front ++ item ∷ back)
item-ends d [] item back = omega (arith, width-cons d item back)
item-ends d (x ∷ front) item back = omega (arith, width-cons d x front, width-cons d x (front ++ item ∷ back), item-ends d front item back)

module _ (r : RuleValues) (d : Netlist) (fed : Fed) (ws : List Wiring) (valid : ValidRules r) (is : IsFed d fed) (routed : IsRouted r d fed ws) where
  bounds : IsBounded r d fed ws
  bounds = bases-within r d fed ws is routed

  -- a riser can be written, and is in reach
  riser-is : (k : ℕ) → k < length fed.rows → (a : Drawn) → Contains (risers_at (risers_in r d fed ws) k) a → IsWire a
  riser-is k within a member =
      let it = riser-of r d fed is ws routed.each k within a member in
      let items : List Item = it.front ++ Cell it.seat ∷ it.back in
      let narrow : items_width d items ≤ fed.width = every-get (λ (row : List Item). items_width d row ≤ fed.width) fed.rows k items bounds.rows it.at in
      let inside : it.column < fed.width = omega (arith, it.to, narrow, item-ends d it.front (Cell it.seat) it.back) in
      let many : length fed.heights ≡ length fed.rows = heights-counted d fed is in
      let top = row-top r fed.heights 0 ws k (omega (arith, within, many)) (omega (arith, routed.each, many)) in
      let floor = row-floor r d fed is ws routed.each k within in
      let tall = row-tall r d fed is ws routed.each k within in
      let lower = it.lower in
      let middle = centre-within r fed.width it.column inside in
      let wide : r.vertical.width ≤ r.grid.column = wire-narrow r valid in
      let some : 1 ≤ r.vertical.width = valid.ranges.vertical.width.0 in
      subst IsWire (sym it.is)
      (piece-is r valid fed.width (stack_top r fed.heights 0 ws) bounds.width bounds.height fed.width (stack_top r fed.heights 0 ws)
      (record { mask = on_vertical; box = upright_box r _ _ it.column; net = a.net }) (omega arith) (omega arith)
      (record {
        some_across = omega arith;
        some_up = omega (arith, lower);
        right = omega (arith, middle, wide);
        top = omega (arith, top, floor, tall);
      }))

  pub risers-are : AllByRecursion (AllByRecursion IsWire) (risers_in r d fed ws)
  risers-are =
      every-from-get (AllByRecursion IsWire) (risers_in r d fed ws)
      (λ k rise at.
      let within : k < length fed.rows = omega (arith, slice_get_within (risers_in r d fed ws) k rise at, risers-each r d fed ws) in
      let there : risers_at (risers_in r d fed ws) k ≡ rise = ap (λ o. unwrap_or o []) at in
      every-from-get IsWire rise
      (λ n a own. riser-is k within a (subst (λ (l : List Drawn). Contains l a) (sym there) (get-contains rise n a own))))
