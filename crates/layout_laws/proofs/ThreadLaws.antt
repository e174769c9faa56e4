use Rattle.std.proofs.Common.{◌≡◌, ◌⊎◌, inl, inr, refl, sym, ◌∙◌, subst, ℕ, zero, suc, ◌+◌, ◌<◌, ◌≤◌, ◌-◌, Contains, arith}
use Rattle.std.proofs.lemmas.Bool.{cases_lt}
use Rattle.geom_core.specs.declared.layout.Layout.{Layout}
use Rattle.channel_model.specs.Nets.{StandsIn as HasPin}
use Rattle.tech_rules.specs.Rules.{RuleValues, ValidRules}
use Rattle.design_model.specs.Netlist.{Netlist}
use Rattle.wire_geom.specs.Edges.{bottom_entry, top_entry}
use Rattle.wire_geom.specs.declared.drawn.Drawn.{Drawn}
use Rattle.wire_geom.proofs.DrawingLaws.{drawing_contact}
use Rattle.layout_laws.proofs.Chains.{AreChained, itself}
use Rattle.layout_laws.proofs.Plans.{Plan, channel_drawn, plan_drawn, IsPlan}
use Rattle.layout_laws.proofs.Threads.{Entering, into_below, into_above, Threads, IsLone, AreThreaded}
use Rattle.layout_laws.proofs.Uprights.{IsWired}
use Rattle.layout_laws.proofs.ChainLaws.{Touch-sym, AreChained-trans, AreChained-sym, touch-chained}
use Rattle.layout_laws.proofs.ChannelChains.{channel_chained}
use Rattle.layout_laws.proofs.EntryTouches.{touch_below, touch_above}
use Rattle.layout_laws.proofs.PlanPlaces.{Place, in_channel, in_row, place_of, channel_among, row_among}

-- a rectangle is chained to one of its net in one of these channels
record Hangs (r : RuleValues) (plan : Plan) (d : Netlist) (l : Layout) (net low high : ℕ) (a : Drawn) : Type 0 where
  channel : ℕ
  wire : Drawn
  from : low ≤ channel
  to : channel ≤ high
  listed : Contains (channel_drawn r plan channel) wire
  of_net : wire.net ≡ net
  chain : AreChained r d l (plan_drawn r plan) wire a

module _ (r : RuleValues) (valid : ValidRules r) (d : Netlist) (l : Layout) (plan : Plan) (is : IsPlan r plan) where
  -- a chain from the first to the second
  abbrev To : Drawn → Drawn → Type 0
  To a b = AreChained r d l (plan_drawn r plan) b a

  abbrev InChannel : ℕ → Drawn → Type 0
  InChannel k a = Contains (channel_drawn r plan k) a

  abbrev EntryAt : ℕ → ℕ → ℕ → Type 0
  EntryAt k column net = top_entry (plan.pins k) column net ⊎ bottom_entry (plan.pins k) column net

  abbrev HasEntry : ℕ → ℕ → Type 0
  HasEntry k net = (column : ℕ) × EntryAt k column net

  -- the net of a rectangle in a channel has an entry there
  net_entry : (k : ℕ) → k ≤ plan.rows → (a : Drawn) → InChannel k a → (0 < a.net) × HasEntry k a.net
  net_entry k within a member =
      let contact = drawing_contact (plan.pins k) (plan.wiring k) (is.wired k within) r valid (plan.base k) in
      let of_a = contact.alone a member in
      let its_net = contact.nets of_a.element a of_a.is_element of_a.is_drawn in
      entry_of a.net (subst (λ (n : ℕ). HasPin (plan.pins k) n) (sym its_net) ((is.wired k within).on_grid of_a.element of_a.is_element).1)
    where
      entry_of : (net : ℕ) → HasPin (plan.pins k) net → (0 < net) × HasEntry k net
      entry_of net pin = (
        pin.0,
        elim (pin.1.1) [
          | inl top ↦ (pin.1.0, inl (pin.0, top))
          | inr bottom ↦ (pin.1.0, inr (pin.0, bottom))
        ],
      )

  -- rectangles of one net in a channel of the plan
  channel_net_chained : (k : ℕ) → k ≤ plan.rows → (a b : Drawn) → InChannel k a → InChannel k b → a.net ≡ b.net → To a b
  channel_net_chained k within a b in_a in_b one_net =
      channel_chained (plan.pins k) (plan.wiring k) (is.wired k within) r valid (plan.base k) d l (plan_drawn r plan)
      (channel_among r plan plan.rows k within) a b in_a in_b one_net

  -- channel by channel upward
  climb : (net low high : ℕ) → Threads r plan d l net low high → (n j : ℕ) → low ≤ j → j + n ≤ high → (a b : Drawn) → InChannel j a → InChannel (j + n) b
      → a.net ≡ net → b.net ≡ net → To a b
  climb net low high threads zero j from to a b in_a in_b net_a net_b =
      let same : j + zero ≡ j = omega arith in
      let last = threads.last in
      channel_net_chained j (omega (arith, to, last)) a b in_a (subst (λ (k : ℕ). InChannel k b) same in_b) (net_a ∙ sym net_b)
  climb net low high threads (suc n) j from to a b in_a in_b net_a net_b =
      let last = threads.last in
      let within : j + n < plan.rows = omega (arith, to, last) in
      let crossed = threads.crossed (j + n) (omega (arith, from)) (omega (arith, to)) in
      let below = touch_below r valid plan is (j + n) within crossed.low crossed.below in
      let above = touch_above r valid plan is (j + n) within crossed.high crossed.above in
      let upper : j + suc n ≡ suc (j + n) = omega arith in
      let low_among = row_among r plan plan.rows (j + n) within crossed.low crossed.below.listed in
      let above_among = channel_among r plan plan.rows (suc (j + n)) (omega (arith, within)) above.0 above.1 in
      AreChained-trans (climb net low high threads n j from (omega (arith, to)) a below.0 in_a below.1 net_a (below.2 ∙ crossed.low_net))
      (AreChained-trans (touch-chained low_among below.3)
      (AreChained-trans crossed.chained
      (AreChained-trans (touch-chained above_among above.3)
      (channel_net_chained (suc (j + n)) (omega (arith, within)) above.0 b above.1 (subst (λ (k : ℕ). InChannel k b) upper in_b)
      (above.2 ∙ crossed.high_net ∙ sym net_b)))))

  -- what enters a channel hangs on it
  entered : (net low high : ℕ) → Threads r plan d l net low high → (k : ℕ) → k < plan.rows → (a : Drawn) → a.net ≡ net → Entering r plan d l k a
      → Hangs r plan d l net low high a
  entered net low high threads k within a net_a (into_below b chain one_net enters) =
      let touch = touch_below r valid plan is k within b enters in
      let net_b : b.net ≡ net = one_net ∙ net_a in
      let below : k ≤ plan.rows = omega (arith, within) in
      let between = threads.entries k enters.column below (subst (λ (n : ℕ). EntryAt k enters.column n) net_b (inl enters.has_entry)) in
      record {
        channel = k;
        wire = touch.0;
        from = between.0;
        to = between.1;
        listed = touch.1;
        of_net = touch.2 ∙ net_b;
        chain = AreChained-trans chain (touch-chained (channel_among r plan plan.rows k below touch.0 touch.1) (Touch-sym touch.3));
      }
  entered net low high threads k within a net_a (into_above b chain one_net enters) =
      let touch = touch_above r valid plan is k within b enters in
      let net_b : b.net ≡ net = one_net ∙ net_a in
      let above : suc k ≤ plan.rows = omega (arith, within) in
      let between = threads.entries (suc k) enters.column above (subst (λ (n : ℕ). EntryAt (suc k) enters.column n) net_b (inr enters.has_entry)) in
      record {
        channel = suc k;
        wire = touch.0;
        from = between.0;
        to = between.1;
        listed = touch.1;
        of_net = touch.2 ∙ net_b;
        chain = AreChained-trans chain (touch-chained (channel_among r plan plan.rows (suc k) above touch.0 touch.1) touch.3);
      }

  -- each rectangle of the net hangs on one of its channels
  hangs : (net low high : ℕ) → Threads r plan d l net low high → (a : Drawn) → Place r plan plan.rows a → IsWired r a → a.net ≡ net
      → Hangs r plan d l net low high a
  hangs net low high threads a (in_channel k within member) wired net_a =
      let its_entry = net_entry k within a member in
      let between = threads.entries k its_entry.1.0 within (subst (λ (n : ℕ). EntryAt k its_entry.1.0 n) net_a its_entry.1.1) in
      record { channel = k; wire = a; from = between.0; to = between.1; listed = member; of_net = net_a; chain = itself }
  hangs net low high threads a (in_row k within member) wired net_a = entered net low high threads k within a net_a (threads.entering k a within member wired net_a)

  -- two channels of a net, the one not above the other
  upward : (net low high : ℕ) → Threads r plan d l net low high → (j k : ℕ) → j ≤ k → low ≤ j → k ≤ high → (a b : Drawn) → InChannel j a → InChannel k b
      → a.net ≡ net → b.net ≡ net → To a b
  upward net low high threads j k order from to a b in_a in_b net_a net_b =
      let gap : k ≡ j + (k - j) = omega (arith, order) in
      climb net low high threads (k - j) j from (omega (arith, order, to)) a b in_a (subst (λ (m : ℕ). InChannel m b) gap in_b) net_a net_b

  -- rectangles that hang on channels of their net are chained
  hung_chained : (net low high : ℕ) → Threads r plan d l net low high → (a b : Drawn) → Contains (plan_drawn r plan) b
      → Hangs r plan d l net low high a → Hangs r plan d l net low high b → To a b
  hung_chained net low high threads a b among_b at_a at_b =
      AreChained-trans at_a.chain (AreChained-trans (between (cases_lt at_b.channel at_a.channel)) (AreChained-sym among_b at_b.chain))
    where
      between : (at_b.channel < at_a.channel) ⊎ (at_a.channel ≤ at_b.channel) → To at_a.wire at_b.wire
      between (inr up) = upward net low high threads at_a.channel at_b.channel up at_a.from at_b.to at_a.wire at_b.wire at_a.listed at_b.listed at_a.of_net at_b.of_net
      between (inl down) =
          let last = threads.last in
          let bound = at_b.to in
          let among = channel_among r plan plan.rows at_b.channel (omega (arith, last, bound)) at_b.wire at_b.listed in
          AreChained-sym among
          (upward net low high threads at_b.channel at_a.channel (omega (arith, down)) at_b.from at_a.to at_b.wire at_a.wire at_b.listed at_a.listed at_b.of_net at_a.of_net)

  -- no rectangle of a net that is alone stands in a channel
  stray : (net : ℕ) → IsLone r plan d l net → (k : ℕ) → k ≤ plan.rows → (a : Drawn) → InChannel k a → a.net ≡ net → ⊥
  stray net lone k within a member net_a =
      let its_entry = net_entry k within a member in
      lone.none k its_entry.1.0 within (subst (λ (n : ℕ). EntryAt k its_entry.1.0 n) net_a its_entry.1.1)

  -- the rectangles of a net that is alone
  lone_chained : (net : ℕ) → IsLone r plan d l net → (a b : Drawn) → Place r plan plan.rows a → Place r plan plan.rows b → IsWired r a → IsWired r b
      → a.net ≡ net → b.net ≡ net → To a b
  lone_chained net lone a b (in_channel k within member) place_b wired_a wired_b net_a net_b = absurd (stray net lone k within a member net_a)
  lone_chained net lone a b (in_row j within member) (in_channel k within_b member_b) wired_a wired_b net_a net_b = absurd (stray net lone k within_b b member_b net_b)
  lone_chained net lone a b (in_row j within member) (in_row k within_b member_b) wired_a wired_b net_a net_b =
      lone.chained j k a b within within_b member member_b wired_a wired_b net_a net_b

  -- wires and cuts of a plan have nets
  positive : AreThreaded r plan d l → (a : Drawn) → Place r plan plan.rows a → IsWired r a → 0 < a.net
  positive threaded a (in_channel k within member) wired = (net_entry k within a member).0
  positive threaded a (in_row k within member) wired = threaded.positive k a within member wired

-- the rectangles of one net of a plan are chained
pub plan-chained : (r : RuleValues) → ValidRules r → (d : Netlist) (l : Layout) (plan : Plan) → IsPlan r plan → AreThreaded r plan d l
    → (a b : Drawn) → Contains (plan_drawn r plan) a → Contains (plan_drawn r plan) b → IsWired r a → IsWired r b → a.net ≡ b.net
    → AreChained r d l (plan_drawn r plan) b a
plan-chained r valid d l plan is threaded a b among_a among_b wired_a wired_b one_net =
    let place_a = place_of r plan plan.rows a among_a in
    let place_b = place_of r plan plan.rows b among_b in
    elim (threaded.nets a.net (positive r valid d l plan is threaded a place_a wired_a)) [
      | inl lone ↦ lone_chained r valid d l plan is a.net lone a b place_a place_b wired_a wired_b refl (sym one_net)
      | inr through ↦
          hung_chained r valid d l plan is a.net through.0 through.1 through.2 a b among_b
          (hangs r valid d l plan is a.net through.0 through.1 through.2 a place_a wired_a refl)
          (hangs r valid d l plan is a.net through.0 through.1 through.2 b place_b wired_b (sym one_net))
    ]
