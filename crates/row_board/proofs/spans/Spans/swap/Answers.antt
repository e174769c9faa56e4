use Rattle.row_board.proofs.spans.Spans.swap.Goals as goal
use Rattle.std.proofs.Common.{◌<◌, ℕ, List, length, ap, sym, ◌∙◌, subst, arith}
use Rattle.row_board.specs.Moving.{AreExchanged}
use Rattle.row_board.specs.NetCosts.{Tabled}
use Rattle.row_board.specs.RowLengths.{Lengths}
use Rattle.row_board.specs.Spot.{Spot}
use Rattle.row_board.specs.Standings.{IsEntered}
use Rattle.row_board.specs.WeighedRows.{WeighedRows}
use Rattle.row_model.specs.Changes.{swapped}
use Rattle.row_model.specs.Rows.{ArePlaced, AreRows}
use Rattle.row_model.specs.declared.rows.Seat.{Seat}
use Rattle.row_model.proofs.PlacedLaws.{placed-distinct}
use Rattle.row_model.proofs.TwiceLaws.{swap-same}
use Rattle.row_board.proofs.ReachLaws.{before-second}
use Rattle.row_board.proofs.SpansLaws.{both-entered, spans-kept}
use Rattle.row_board.proofs.BoardLaws.{lengths-changed, lengths-few, lengths-swapped}
use Rattle.std_laws.proofs.Slices.{overwritten-same}

pub change-requires-clause-small : goal.change-requires-clause-small
change-requires-clause-small c = λ width at.
    let i = c.self.inside in
    let few = lengths-few i.costs.design i.rows i.lengths.widths c.self.invariant.good c.self.invariant.board.seated.placed
    (ap (λ (l : Lengths). l.widths) c.self.invariant.board.are_lengths) c.one.inside.row width at in
    omega (arith, few)

pub change-requires-2-clause-small : goal.change-requires-2-clause-small
change-requires-2-clause-small c =
    let i = c.self.inside in
    lengths-changed i.costs.design i.rows i.lengths.widths c.change.new.self.widths c.one.inside.row c.columns_of-other_width.result c.columns_of-width.result
    c.self.invariant.good c.self.invariant.board.seated.placed (ap (λ (l : Lengths). l.widths) c.self.invariant.board.are_lengths) c.columns_of-other_width.ensures.few c.change.ensures.widths
    c.other.inside.row

pub enter_reach-requires-2-clause-placed : goal.enter_reach-requires-2-clause-placed
enter_reach-requires-2-clause-placed c = subst (λ (t : Tabled). ArePlaced t.design c.exchange_seats.new.rows) (sym c.enter_reach.ensures.rest) c.exchange_seats.ensures.placed

pub enter_reach-requires-2-clause-before : goal.enter_reach-requires-2-clause-before
enter_reach-requires-2-clause-before c = λ k is.
    subst (λ (t : Tabled). IsEntered t.design c.exchange_seats.new.rows c.enter_reach.new.costs.standings c.exchange_seats.result.1.row k) (sym c.enter_reach.ensures.rest)
    (before-second c.self.inside.costs.design c.exchange_seats.new.rows c.self.inside.costs.standings c.enter_reach.new.costs.standings c.exchange_seats.result.0 c.exchange_seats.result.1
    c.exchange_seats.ensures.unmoved c.enter_reach.ensures.entered c.enter_reach.ensures.kept k is)

pub invariant_of-rows : goal.invariant_of-rows
invariant_of-rows c =
    subst AreRows (sym (overwritten-same c.exchange_seats.new.rows _ (c.exchange_seats.auto.rows ∙ ap length c.items_mut-seats.ensures.value)))
    (placed-distinct _ _ c.exchange_seats.ensures.placed)

pub invariant_of-self : goal.invariant_of-self
invariant_of-self c =
    let i = c.self.inside in
    let d = i.costs.design in
    let board = c.self.invariant.board in
    let rows = c.exchange_seats.new.rows in
    let exchanged = c.exchange_seats.ensures in
    let once = c.enter_reach.new.costs in
    let new = c.enter_reach-2.new.costs in
    let rest = c.enter_reach-2.ensures.rest ∙ ap (λ (t : Tabled). record t { standings = new.standings }) c.enter_reach.ensures.rest in
    let old = c.items_mut-seats.ensures.value ∙ c.rows.view_is in
    let within = λ (n : ℕ) (is : n < length c.args.self.now.design.instances). subst (λ (v : WeighedRows). n < length v.design.instances) (sym c.self.view_is) is in
    spans-kept i c.self.invariant rows _ (overwritten-same rows _ (c.exchange_seats.auto.rows ∙ ap length c.items_mut-seats.ensures.value)) new rest c.change-2.new.self
    (record {
      seated = both-entered d rows i.costs.standings once new c.exchange_seats.result.0 c.exchange_seats.result.1 exchanged.placed board.seated.count exchanged.unmoved
          (ap (λ (t : Tabled). t.design) c.enter_reach.ensures.rest) c.enter_reach.ensures.count c.enter_reach.ensures.entered c.enter_reach.ensures.kept
          c.enter_reach-2.ensures.count c.enter_reach-2.ensures.entered c.enter_reach-2.ensures.kept;
      are_lengths = lengths-swapped d i.rows rows i.costs.standings c.args.a c.args.b c.one.inside.row c.other.inside.row
          c.columns_of-width.result c.columns_of-other_width.result i.lengths c.change.new.self c.change-2.new.self c.self.invariant.good board.seated c.if-a-b.false
          (within c.args.a c.requires.a) (within c.args.b c.requires.b) (exchanged.swapped ∙ ap (swapped c.args.a c.args.b) old)
          (subst (λ (l : List (List Seat)). AreExchanged i.costs.standings c.args.a c.args.b l rows) old exchanged.exchanged)
          (ap (λ (s : Spot). s.row) (c.one.view_is ∙ c.standing.ensures)) (ap (λ (s : Spot). s.row) (c.other.view_is ∙ c.standing-2.ensures))
          c.columns_of-width.ensures.width c.columns_of-other_width.ensures.width
          board.are_lengths c.change.ensures.widths c.change.ensures.target c.change-2.ensures.widths c.change-2.ensures.target;
    })

pub returns-then-a-b : goal.returns-then-a-b
returns-then-a-b c =
    ap (λ (l : List (List Seat)). record { design = c.args.self.now.design; rows = l; weights = c.args.self.now.weights }) (sym (swap-same c.args.self.now.rows c.args.a c.args.b
    (subst (λ (v : WeighedRows). AreRows v.rows) c.self.view_is (placed-distinct c.self.inside.costs.design c.self.inside.rows c.self.invariant.board.seated.placed)) c.if-a-b.true))
