use Rattle.std.proofs.Common.{◌≡◌, ◌∙◌, ℕ, Bool, sym, rules, false, refl, ap}
use Rattle.std.specs.Prelude.{◌||◌}
use Rattle.std.specs.List.{list_any}
use Rattle.std.proofs.lemmas.Result.{IfOk-weaker}
use Rattle.std_laws.proofs.Images.{picked-agree}
use Rattle.greedy_router.specs.Marks.{is_marked}
use Rattle.greedy_router.specs.Tables.{has_via_by, meets_by, via_by}
use Rattle.greedy_router.proofs.TellLaws.{none-picked}
use Rattle.greedy_router.proofs.pieces.Moment.vias.Goals as goal

pub returns-then-not-has_some : goal.returns-then-not-has_some
returns-then-not-has_some c =
    let moment = c.args.self.now in
    let none : c.has_some.result ≡ false = search rules in
    c.new.ensures.items ∙ sym (none-picked (via_by moment.order.now moment.column moment.nets.now moment.laters.now)
    (has_via_by moment.order.now moment.nets.now moment.pins.now moment.done.now) moment.order.now (c.has_some.ensures none))

pub returns : goal.returns
returns c =
    let moment = c.args.self.now in
    let made = via_by moment.order.now moment.column moment.nets.now moment.laters.now in
    let met : ℕ → Bool = λ id. list_any (meets_by moment.order.now moment.nets.now id) moment.pins.now in
    IfOk-weaker c.marked_vias.result _ _
    (λ vias is. is ∙ picked-agree made made (λ id. met id || is_marked moment.ends.now.rounds.items moment.ends.now.round id)
    (has_via_by moment.order.now moment.nets.now moment.pins.now moment.done.now) moment.order.now
    (λ id member. (refl, ap (λ b. met id || b) (moment.ended id member)))) c.marked_vias.ensures
