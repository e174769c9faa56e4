use Rattle.std.proofs.Common.{◌≡◌, refl, sym, ap, subst, ℕ, zero, suc, ◌+◌, ◌*◌, ◌<◌, ◌≤◌, List, [], ◌∷◌, ◌++◌, Contains, arith}
use Rattle.std.proofs.Math.Nat.{mul-le-mul_right}
use Rattle.channel_model.specs.declared.wiring.Wiring.{Wiring}
use Rattle.tech_rules.specs.Rules.{RuleValues, ValidRules}
use Rattle.wire_geom.specs.Edges.{bottom_entry, top_entry}
use Rattle.wire_geom.specs.Spaces.{NetsApart}
use Rattle.wire_geom.specs.Widths.{AreWide}
use Rattle.layout_laws.specs.Heights.{channel_height}
use Rattle.layout_laws.proofs.Plans.{Plan, row_base, channel_drawn, drawn_to, plan_drawn, IsPlan}
use Rattle.layout_laws.proofs.Seats.{Seat, UprightAt, LowerNet, UpperNet}
use Rattle.layout_laws.proofs.Strips.{Strip, IsTall}
use Rattle.layout_laws.proofs.BareLaws.{IsBare, strip-lowered}
use Rattle.layout_laws.proofs.RowLaws.{row-strip}
use Rattle.layout_laws.proofs.SeatLaws.{UprightAt-none, LowerNet-one, UpperNet-one}
use Rattle.layout_laws.proofs.StripLaws.{channel-strip, strip-on}

-- a channel is at least as high as one track, which holds the vertical space
pub channel-tall : (r : RuleValues) → ValidRules r → (base : ℕ) (wiring : Wiring) → IsTall r (2 * base) (2 * (base + channel_height r wiring))
channel-tall r valid base wiring =
    let one : 1 * r.grid.track ≤ (wiring.tracks + 1) * r.grid.track = mul-le-mul_right {m = 1} {n = wiring.tracks + 1} r.grid.track (omega arith) in
    omega (arith, one, valid.track_vertical)

module _ (r : RuleValues) (valid : ValidRules r) (plan : Plan) (is : IsPlan r plan) where
  -- the lower and the upper edge of a row in half units
  abbrev floor_of : ℕ → ℕ
  floor_of k = 2 * row_base r plan k

  abbrev ceiling_of : ℕ → ℕ
  ceiling_of k = 2 * plan.base (suc k)

  top_of_row : (k : ℕ) → k < plan.rows → 2 * (row_base r plan k + plan.height k) ≡ ceiling_of k
  top_of_row k within = ap (λ (n : ℕ). 2 * n) (sym (is.next k within))

  -- a row as a strip
  row_of : (k : ℕ) → k < plan.rows → Strip r (floor_of k) (ceiling_of k) (LowerNet (plan.seats k)) (UpperNet (plan.height k) (plan.seats k)) (plan.row k)
  row_of k within =
      subst (λ (n : ℕ). Strip r (floor_of k) n (LowerNet (plan.seats k)) (UpperNet (plan.height k) (plan.seats k)) (plan.row k)) (top_of_row k within)
      (row-strip r valid (row_base r plan k) (plan.height k) (plan.seats k) (is.seated k within) (plan.row k) (is.drawn k within))

  -- a channel as a strip
  channel_of : (k : ℕ) → k ≤ plan.rows → Strip r (2 * plan.base k) (floor_of k) (bottom_entry (plan.pins k)) (top_entry (plan.pins k)) (channel_drawn r plan k)
  channel_of k within = channel-strip r valid (plan.pins k) (plan.wiring k) (is.wired k within) (plan.base k)

  -- and it is high enough for wires beyond its two edges
  tall_row : (k : ℕ) → k < plan.rows → r.vertical.space ≤ plan.height k → IsTall r (floor_of k) (ceiling_of k)
  tall_row k within tall = omega (arith, is.next k within, tall)

  -- a row without seats has no wires, and no entries on its upper edge
  bare_row : (k : ℕ) → k < plan.rows → plan.seats k ≡ [] → IsBare r (plan.row k)
  bare_row k within none a member wired =
      let it = is.drawn k within a member wired in
      UprightAt-none it.upright it.column 0 (subst (λ (seats : List Seat). UprightAt it.upright it.column 0 seats) none it.at)

  bare_edge : (k : ℕ) → k < plan.rows → plan.seats k ≡ [] → (column net : ℕ) → bottom_entry (plan.pins (suc k)) column net → ⊥
  bare_edge k within none column net entry =
      let over = is.bottom_entries k within column net entry in
      UprightAt-none over.upright column 0 (subst (λ (seats : List Seat). UprightAt over.upright column 0 seats) none over.at)

  -- a row and the channel above it as one strip
  pair_of : (k : ℕ) → k < plan.rows
      → Strip r (floor_of k) (floor_of (suc k)) (LowerNet (plan.seats k)) (top_entry (plan.pins (suc k))) (plan.row k ++ channel_drawn r plan (suc k))
  pair_of k within = by (plan.seats k) refl
    where
      by : (seats : List Seat) → plan.seats k ≡ seats
          → Strip r (floor_of k) (floor_of (suc k)) (LowerNet (plan.seats k)) (top_entry (plan.pins (suc k))) (plan.row k ++ channel_drawn r plan (suc k))
      by [] none =
          strip-lowered r (floor_of k) (ceiling_of k) (floor_of (suc k)) (LowerNet (plan.seats k)) (bottom_entry (plan.pins (suc k))) (top_entry (plan.pins (suc k)))
          (omega (arith, is.next k within)) (bare_edge k within none) (plan.row k) (channel_drawn r plan (suc k)) (bare_row k within none)
          (channel_of (suc k) (omega (arith, within)))
      by (seat ∷ rest) some =
          let there : Contains (plan.seats k) seat = subst (λ (seats : List Seat). Contains seats seat) (sym some) (0, omega arith, refl) in
          let tall = is.tall k within seat there in
          strip-on r valid (floor_of k) (ceiling_of k) (floor_of (suc k)) (LowerNet (plan.seats k)) (UpperNet (plan.height k) (plan.seats k))
          (bottom_entry (plan.pins (suc k))) (top_entry (plan.pins (suc k)))
          (λ column n m upper entry. UpperNet-one r valid (plan.height k) (plan.seats k) (is.seated k within) column n m upper (is.bottom_entries k within column m entry))
          (tall_row k within tall) (channel-tall r valid (plan.base (suc k)) (plan.wiring (suc k)))
          (plan.row k) (channel_drawn r plan (suc k)) (row_of k within) (channel_of (suc k) (omega (arith, within)))

  -- all up to a channel's upper edge: it is high enough, and a strip
  tall_to : (k : ℕ) → k ≤ plan.rows → IsTall r (2 * plan.base 0) (floor_of k)
  tall_to zero within = channel-tall r valid (plan.base 0) (plan.wiring 0)
  tall_to (suc k) within = omega (arith, tall_to k (omega (arith, within)), is.next k within)

  strip_to : (k : ℕ) → k ≤ plan.rows → Strip r (2 * plan.base 0) (floor_of k) (bottom_entry (plan.pins 0)) (top_entry (plan.pins k)) (drawn_to r plan k)
  strip_to zero within = channel_of 0 within
  strip_to (suc k) within =
      strip-on r valid (2 * plan.base 0) (floor_of k) (floor_of (suc k)) (bottom_entry (plan.pins 0)) (top_entry (plan.pins k))
      (LowerNet (plan.seats k)) (top_entry (plan.pins (suc k)))
      (λ column n m entry lower. LowerNet-one r valid (plan.height k) (plan.seats k) (is.seated k within) column n m (is.top_entries k within column n entry) lower)
      (tall_to k (omega (arith, within)))
      (omega (arith, is.next k within, channel-tall r valid (plan.base (suc k)) (plan.wiring (suc k))))
      (drawn_to r plan k) (plan.row k ++ channel_drawn r plan (suc k)) (strip_to k (omega (arith, within))) (pair_of k within)

  -- the rectangles of a plan are a strip from its lower edge to its upper edge
  pub plan-strip : Strip r (2 * plan.base 0) (2 * row_base r plan plan.rows) (bottom_entry (plan.pins 0)) (top_entry (plan.pins plan.rows)) (plan_drawn r plan)
  plan-strip = strip_to plan.rows (omega arith)

-- the rectangles of a plan are as wide as the rules say, and its cuts are covered
pub plan-wide : (r : RuleValues) → ValidRules r → (plan : Plan) → IsPlan r plan → AreWide r (plan_drawn r plan)
plan-wide r valid plan is = (plan-strip r valid plan is).wide

-- those of different nets keep their layers' spaces
pub plan-apart : (r : RuleValues) → ValidRules r → (plan : Plan) → IsPlan r plan → NetsApart r (plan_drawn r plan)
plan-apart r valid plan is = (plan-strip r valid plan is).apart
