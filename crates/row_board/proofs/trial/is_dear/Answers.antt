use Rattle.std.proofs.Common.{◌≡◌, ◌<◌, ◌+◌, ◌*◌, ap, ap₂, sym, ◌∙◌, arith, subst, ℕ, List, sum}
use Rattle.std.proofs.lemmas.Bool.{OnTrue_at, OnTrue_from}
use Rattle.row_board.specs.Cost.{cost_of}
use Rattle.row_board.specs.NetCosts.{table_costs, Tabled}
use Rattle.row_board.specs.RowLengths.{Lengths}
use Rattle.row_board.specs.Standings.{standing_of, traded, AreEntered}
use Rattle.row_board.specs.Spot.{Spot}
use Rattle.row_board.specs.Trial.{instances_instead, least_cost, shifted_seats, AreInstances, AreOthers}
use Rattle.row_board.specs.Weights.{Weighing}
use Rattle.row_model.specs.Changes.{swapped}
use Rattle.row_board.proofs.BoardLaws.{lengths-few}
use Rattle.design_model.specs.Netlist.{Netlist}
use Rattle.row_model.specs.declared.rows.Seat.{Seat}
use Rattle.row_board.proofs.JoinLaws.{others-behind, there-behind}
use Rattle.row_board.proofs.TradeLaws.{dear-told, put-back, uneven-known}
use Rattle.std_laws.proofs.Tests.{nat_lt-above}
use Rattle.row_board.proofs.trial.is_dear.Goals as goal
use Rattle.row_board.proofs.trial.is_dear.Goals.{then-cost-limit, else-cost-limit}

pub unevenness_after-uneven-requires-clause-small : goal.unevenness_after-uneven-requires-clause-small
unevenness_after-uneven-requires-clause-small c = λ r width at.
    let t = c.args.costs.now in
    let few = lengths-few t.design c.args.rows.now c.args.lengths.now.widths c.design-design.ensures.good c.requires.board.seated.placed
    (ap (λ (l : Lengths). l.widths) c.requires.board.are_lengths) r width at in
    omega (arith, few)

-- the seats behind either instance by where both stood
behind-told : (d : Netlist) (rows : List (List Seat)) (standings : List Spot) (a b : ℕ) (one other : Spot) → one ≡ standing_of standings a → other ≡ standing_of standings b
    → AreEntered d rows standings → AreOthers a b (shifted_seats rows one other)
behind-told d rows standings a b one other is_one is_other entered =
    subst (λ (s : Spot). AreOthers a b (shifted_seats rows s other)) (sym is_one)
    (subst (λ (s : Spot). AreOthers a b (shifted_seats rows (standing_of standings a) s)) (sym is_other) (others-behind d rows standings a b entered))

pub is_above_first-dear-requires-clause-front : goal.is_above_first-dear-requires-clause-front
is_above_first-dear-requires-clause-front c =
    let t = c.args.costs.now in
    behind-told t.design c.args.rows.now t.standings c.args.a c.args.b c.standing-one.result c.standing-other.result c.standing-one.ensures c.standing-other.ensures c.requires.board.seated.entered

pub is_above_first-dear-requires-clause-front_others : goal.is_above_first-dear-requires-clause-front_others
is_above_first-dear-requires-clause-front_others c =
    let t = c.args.costs.now in
    behind-told t.design c.args.rows.now t.standings c.args.b c.args.a c.standing-other.result c.standing-one.result c.standing-other.ensures c.standing-one.ensures c.requires.board.seated.entered

pub is_above_first-dear-requires-clause-there : goal.is_above_first-dear-requires-clause-there
is_above_first-dear-requires-clause-there c =
    let t = c.args.costs.now in
    subst (λ (v : Tabled). AreInstances v.design (instances_instead c.args.a c.args.b (shifted_seats c.args.rows.now c.standing-one.result c.standing-other.result))) (sym c.trade.ensures)
    (there-behind t.design c.args.rows.now c.args.a c.args.b c.standing-one.result c.standing-other.result c.design-design.ensures.good c.requires.board.seated.placed c.requires.a c.requires.b)

pub is_above_first-dear-requires-clause-there_others : goal.is_above_first-dear-requires-clause-there_others
is_above_first-dear-requires-clause-there_others c =
    let t = c.args.costs.now in
    subst (λ (v : Tabled). AreInstances v.design (instances_instead c.args.b c.args.a (shifted_seats c.args.rows.now c.standing-other.result c.standing-one.result))) (sym c.trade.ensures)
    (there-behind t.design c.args.rows.now c.args.b c.args.a c.standing-other.result c.standing-one.result c.design-design.ensures.good c.requires.board.seated.placed c.requires.b c.requires.a)

pub returns-clause-dear : goal.returns-clause-dear
returns-clause-dear c = elim c.if-cost-limit.branch [
  | then-cost-limit w ↦
      let t = c.args.costs.now in
      let cost = c.sum.result + c.length_cost.inside.length_cost * c.unevenness_after-uneven.result in
      let is_cost = ap₂ (λ (n k : ℕ). n + k * c.unevenness_after-uneven.result)
      (c.sum.ensures.is ∙ ap (λ (v : Tabled). sum (table_costs v.design v.weights v.standings)) c.trade.ensures)
      (ap (λ (w : Weighing). w.length_cost) (c.length_cost.view_is ∙ c.weights.ensures.is)) in
      let few = uneven-known t.design c.args.rows.now t.standings c.args.lengths.now c.args.a c.args.b c.unevenness_after-uneven.result c.one.inside.row c.other.inside.row
      c.columns_of.result c.columns_of-2.result c.design-design.ensures.good c.requires.board c.requires.apart c.requires.a c.requires.b
      (ap (λ (s : Spot). s.row) (c.one.view_is ∙ c.standing-one.ensures)) (ap (λ (s : Spot). s.row) (c.other.view_is ∙ c.standing-other.ensures))
      c.columns_of.ensures.width c.columns_of-2.ensures.width c.unevenness_after-uneven.ensures.same c.unevenness_after-uneven.ensures.apart in
      let new = c.trade.new.self in
      let is_least = ap (λ (v : Tabled). least_cost v.design c.args.rows.now v.standings c.args.a c.args.b c.standing-one.result c.standing-other.result cost) c.trade.ensures
      ∙ ap₂ (λ (one other : Spot). least_cost t.design c.args.rows.now (traded c.args.a c.args.b t.standings) c.args.a c.args.b one other cost)
      c.standing-one.ensures c.standing-other.ensures in
      OnTrue_from c.if-cost-limit.dear (c.args.limit < cost_of t.design (swapped c.args.a c.args.b c.args.rows.now) t.weights)
      (λ test. dear-told t.design c.args.rows.now t.weights t.standings c.args.lengths.now c.args.a c.args.b c.unevenness_after-uneven.result c.design-design.ensures.good c.requires.board
      c.requires.apart c.requires.a c.requires.b few
      cost (least_cost new.design c.args.rows.now new.standings c.args.a c.args.b c.standing-one.result c.standing-other.result cost) c.args.limit is_cost is_least
      (OnTrue_at (sym w.dear-is ∙ test) w.is_above_first-dear.ensures))
  | else-cost-limit w ↦
      OnTrue_from c.if-cost-limit.dear (c.args.limit < cost_of c.args.costs.now.design (swapped c.args.a c.args.b c.args.rows.now) c.args.costs.now.weights)
      (λ test. absurd (omega (arith, nat_lt-above c.args.limit (c.sum.result + c.length_cost.inside.length_cost * c.unevenness_after-uneven.result) (sym w.dear-is ∙ test), w.if-cost-limit.false)))
]

pub returns-clause-same : goal.returns-clause-same
returns-clause-same c =
    put-back c.args.costs.now c.trade.new.self c.put.new.self c.put-2.new.self c.args.a c.args.b _ _ c.standing-one.ensures c.standing-other.ensures c.trade.ensures c.put.ensures c.put-2.ensures
