use Rattle.std.proofs.Common.{◌≡◌, ap, sym, ◌∙◌, subst, refl, ◌≤◌, ◌+◌, Bool, ℕ, zero, suc, List, [], ◌∷◌, length, Some, All, Contains, arith}
use Rattle.std.proofs.lemmas.List.{length-map}
use Rattle.std.proofs.lemmas.List.Elements.{All-weaker, All-contains_itself}
use Rattle.std.proofs.lemmas.Option.{none-some, same_Some}
use Rattle.std.specs.Prelude.{slice_get}
use Rattle.channel_model.specs.Elements.{elements}
use Rattle.channel_model.specs.Limits.{most_extra, most_tracks}
use Rattle.channel_model.specs.Nets.{nets_of}
use Rattle.channel_model.specs.Pins.{Pins}
use Rattle.channel_model.specs.Wired.{Wired, IsOnGrid}
use Rattle.channel_model.specs.declared.wiring.Wiring.{Wiring}
use Rattle.channel_stack.specs.Routed.{AreWired, IsRouted}
use Rattle.choose_core.specs.declared.candidate.Candidate.{Candidate}
use Rattle.choose_core.specs.declared.plan.Plan.{Plan}
use Rattle.design_model.specs.Netlist.{Netlist}
use Rattle.feed_cells.specs.Fed.{Fed}
use Rattle.greedy_router.specs.Answers.{AreRouted, IsRoutedAs}
use Rattle.greedy_router.specs.declared.sweep.Routed.{Routed}
use Rattle.pin_assign.specs.Bounds.{bound_of}
use Rattle.pin_assign.specs.ChannelTables.{AreTablesFor}
use Rattle.pin_assign.specs.Tables.{tables_of}
use Rattle.tech_rules.specs.Rules.{RuleValues}
use Rattle.command_jobs.specs.Text.{wirings_of}

-- the wiring at a place is that of the routed channel there
wiring-at : (kept : List Routed) (k : ℕ) (w : Wiring) → slice_get (wirings_of kept) k ≡ Some w → (one : Routed) × (slice_get kept k ≡ Some one) × (one.wiring ≡ w)
wiring-at [] k w at = absurd (none-some w at)
wiring-at (one ∷ kept) zero w at = (one, refl, same_Some one.wiring w at)
wiring-at (one ∷ kept) (suc k) w at = wiring-at kept k w at

-- where a list is as long as another, there is a member at each place of the other
pins-at : (channels : List Pins) (kept : List Routed) (k : ℕ) (one : Routed) → length kept ≡ length channels → slice_get kept k ≡ Some one
    → (pins : Pins) × (slice_get channels k ≡ Some pins)
pins-at channels [] k one same at = absurd (none-some one at)
pins-at [] (other ∷ kept) k one same at = absurd (omega arith)
pins-at (pins ∷ channels) (other ∷ kept) zero one same at = (pins, refl)
pins-at (pins ∷ channels) (other ∷ kept) (suc k) one same at = pins-at channels kept k one (omega arith) at

-- the same of equal lists
pub told-routed : (edge : Bool) (plan : Plan) (may : List Candidate → ℕ → Type 0) (channels others : List Pins) (routed kept : List Routed) → channels ≡ others → kept ≡ routed
    → AreRouted edge plan may channels routed → AreRouted edge plan may others kept
told-routed edge plan may channels others routed kept same is made =
    subst (λ (l : List Pins). AreRouted edge plan may l kept) same (subst (AreRouted edge plan may channels) (sym is) made)

-- where the channels of rows with feeds are routed
module _ (edge : Bool) (plan : Plan) (may : List Candidate → ℕ → Type 0) (d : Netlist) (fed : Fed) (tables : AreTablesFor fed (tables_of d fed)) (kept : List Routed)
    (routed : AreRouted edge plan may (tables_of d fed) kept) where
  each : length (wirings_of kept) ≡ length fed.rows + 1
  each = length-map kept (λ (r : Routed). r.wiring) ∙ routed.each ∙ tables.many

  -- the wirings connect their channels
  pub routed-wired : AreWired d fed (wirings_of kept)
  routed-wired = record {
    each = each;
    wired = λ k pins w listed there.
        let one = wiring-at kept k w there in
        subst (Wired pins) one.2 (routed.within k pins one.0 listed one.1).wired;
  }

  at : (k : ℕ) (w : Wiring) → slice_get (wirings_of kept) k ≡ Some w
      → (pins : Pins) × ((slice_get (tables_of d fed) k ≡ Some pins) × ((one : Routed) × ((one.wiring ≡ w) × IsRoutedAs edge plan may pins one)))
  at k w there =
      let one = wiring-at kept k w there in
      let pins = pins-at (tables_of d fed) kept k one.0 routed.each one.1 in
      (pins.0, (pins.1, (one.0, (one.2, routed.within k pins.0 one.0 pins.1 one.1))))

  -- and lie within the tracks and columns of the bound
  pub routed-within : (r : RuleValues) → (bound_of r d fed).width ≤ 1000000000 → (bound_of r d fed).height ≤ 1000000000 → IsRouted r d fed (wirings_of kept)
  routed-within r width height = record {
    each = each;
    on_grid = λ k w there. let p = at k w there in grid-of p.0 w (subst (Wired p.0) p.1.1.1.0 p.1.1.1.1.wired);
    tracks = λ k nets w there counted.
        let p = at k w there in
        let few : p.1.1.0.wiring.tracks ≤ most_tracks (length (nets_of p.0)) = p.1.1.1.1.within.tracks in
        let w_is : p.1.1.0.wiring.tracks ≡ w.tracks = ap (λ (v : Wiring). v.tracks) p.1.1.1.0 in
        let n_is : nets ≡ length (nets_of p.0) = nets-of k nets p.0 counted p.1.0 in
        omega arith;
    columns = λ k nets w there counted.
        let p = at k w there in
        let few : p.1.1.0.wiring.columns ≤ length p.0.top + most_extra (length (nets_of p.0)) = p.1.1.1.1.within.columns in
        let w_is : p.1.1.0.wiring.columns ≡ w.columns = ap (λ (v : Wiring). v.columns) p.1.1.1.0 in
        let n_is : nets ≡ length (nets_of p.0) = nets-of k nets p.0 counted p.1.0 in
        let long : length p.0.top ≡ fed.width = tables.wide k p.0 p.1.0 in
        omega arith;
    width = width;
    height = height;
  }
    where
      grid-of : (pins : Pins) (w : Wiring) → Wired pins w → All (IsOnGrid w.columns w.tracks) (elements w)
      grid-of pins w is =
          All-weaker (Contains (elements w)) (IsOnGrid w.columns w.tracks) (λ e listed. (is.on_grid e listed).0) (elements w) (All-contains_itself (elements w))

      nets-of : (k nets : ℕ) (p : Pins) → slice_get fed.nets k ≡ Some nets → slice_get (tables_of d fed) k ≡ Some p → nets ≡ length (nets_of p)
      nets-of k nets p counted listed = same_Some nets (length (nets_of p)) (sym counted ∙ tables.nets k p listed)
