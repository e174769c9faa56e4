use Rattle.std.proofs.Common.{◌≡◌, ap, sym, ◌∙◌, subst, refl, ◌≤◌, ◌+◌, ◌*◌, ℕ, zero, suc, List, [], ◌∷◌, map, length, Some, All, Contains, arith}
use Rattle.std.proofs.lemmas.List.{length-map}
use Rattle.std.proofs.lemmas.List.Elements.{All-weaker, All-contains_itself}
use Rattle.std.proofs.lemmas.Option.{none-some, same_Some}
use Rattle.std.specs.Prelude.{slice_get}
use Rattle.channel_model.specs.Elements.{elements}
use Rattle.channel_model.specs.Nets.{nets_of}
use Rattle.channel_model.specs.Pins.{Pins}
use Rattle.channel_model.specs.Wired.{Wired, IsOnGrid}
use Rattle.channel_model.specs.declared.wiring.Wiring.{Wiring}
use Rattle.channel_stack.specs.Routed.{IsRouted}
use Rattle.feed_cells.specs.Fed.{Fed}
use Rattle.design_model.specs.Netlist.{Netlist}
use Rattle.pin_assign.specs.Bounds.{bound_of}
use Rattle.pin_assign.specs.ChannelTables.{AreTablesFor}
use Rattle.pin_assign.specs.Tables.{tables_of}
use Rattle.plain_router.specs.Plain.{plain_of}
use Rattle.tech_rules.specs.Rules.{RuleValues}

-- the plain wiring at a place is that of the channel there
plain-at : (channels : List Pins) (k : ℕ) (w : Wiring) → slice_get (map plain_of channels) k ≡ Some w → (p : Pins) × (slice_get channels k ≡ Some p) × (plain_of p ≡ w)
plain-at [] k w at = absurd (none-some w at)
plain-at (p ∷ channels) zero w at = (p, refl, same_Some (plain_of p) w at)
plain-at (p ∷ channels) (suc k) w at = plain-at channels k w at

-- where plain wirings connect the channels of rows with feeds
module _ (d : Netlist) (fed : Fed) (channels : List Pins) (are : channels ≡ tables_of d fed) (tables : AreTablesFor fed channels)
    (wired : (k : ℕ) (pins : Pins) → slice_get channels k ≡ Some pins → Wired pins (plain_of pins)) (ws : List Wiring) (stated : ws ≡ map plain_of channels) where
  at : (k : ℕ) (w : Wiring) → slice_get ws k ≡ Some w → (p : Pins) × (slice_get channels k ≡ Some p) × (plain_of p ≡ w)
  at k w there = plain-at channels k w (ap (λ (l : List Wiring). slice_get l k) (sym stated) ∙ there)

  each : length ws ≡ length fed.rows + 1
  each = ap length stated ∙ length-map channels plain_of ∙ tables.many

  wired-at : (k : ℕ) (pins : Pins) (w : Wiring) → slice_get channels k ≡ Some pins → slice_get ws k ≡ Some w → Wired pins w
  wired-at k pins w listed there =
      let p = at k w there in
      let same : pins ≡ p.0 = same_Some pins p.0 (sym listed ∙ p.1) in
      subst (λ (v : Wiring). Wired pins v) (ap plain_of same ∙ p.2) (wired k pins listed)

  -- they lie within the tracks and columns of the bound
  pub plain-routed : (r : RuleValues) → (bound_of r d fed).width ≤ 1000000000 → (bound_of r d fed).height ≤ 1000000000 → IsRouted r d fed ws
  plain-routed r width height = record {
    each = each;
    on_grid = λ k w there. let p = at k w there in grid-of p.0 w (wired-at k p.0 w p.1 there);
    tracks = λ k nets w there counted.
        let p = at k w there in
        let w_is : 2 * length (nets_of p.0) ≡ w.tracks = ap (λ (v : Wiring). v.tracks) p.2 in
        let n_is : nets ≡ length (nets_of p.0) = nets-of k nets p.0 counted p.1 in
        omega arith;
    columns = λ k nets w there counted.
        let p = at k w there in
        let w_is : length p.0.top + length (nets_of p.0) ≡ w.columns = ap (λ (v : Wiring). v.columns) p.2 in
        let n_is : nets ≡ length (nets_of p.0) = nets-of k nets p.0 counted p.1 in
        let long : length p.0.top ≡ fed.width = tables.wide k p.0 p.1 in
        omega arith;
    width = width;
    height = height;
  }
    where
      grid-of : (pins : Pins) (w : Wiring) → Wired pins w → All (IsOnGrid w.columns w.tracks) (elements w)
      grid-of pins w is =
          All-weaker (Contains (elements w)) (IsOnGrid w.columns w.tracks) (λ e listed. (is.on_grid e listed).0) (elements w) (All-contains_itself (elements w))

      nets-of : (k nets : ℕ) (p : Pins) → slice_get fed.nets k ≡ Some nets → slice_get channels k ≡ Some p → nets ≡ length (nets_of p)
      nets-of k nets p counted listed = same_Some nets (length (nets_of p)) (sym counted ∙ tables.nets k p listed)
