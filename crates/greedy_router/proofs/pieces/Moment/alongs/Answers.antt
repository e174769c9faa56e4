use Rattle.std.proofs.Common.{◌≡◌, ◌∙◌, sym, rules, false, refl}
use Rattle.std.proofs.lemmas.Result.{IfOk-weaker}
use Rattle.std_laws.proofs.Images.{picked-agree}
use Rattle.greedy_router.specs.Marks.{is_marked}
use Rattle.greedy_router.specs.SweepWiring.{leaves}
use Rattle.greedy_router.specs.Tables.{along_by}
use Rattle.greedy_router.proofs.TellLaws.{none-picked}
use Rattle.greedy_router.proofs.pieces.Moment.alongs.Goals as goal

pub returns-then-not-leaves_some : goal.returns-then-not-leaves_some
returns-then-not-leaves_some c =
    let moment = c.args.self.now in
    let none : c.leaves_some.result ≡ false = search rules in
    c.new.ensures.items ∙ sym (none-picked (along_by moment.order.now moment.column moment.nets.now moment.since.now) (leaves moment.done.now) moment.order.now
    (c.leaves_some.ensures none))

pub returns : goal.returns
returns c =
    let moment = c.args.self.now in
    let made = along_by moment.order.now moment.column moment.nets.now moment.since.now in
    IfOk-weaker c.marked_alongs.result _ _
    (λ alongs is. is ∙ picked-agree made made (is_marked moment.lefts.now.rounds.items moment.lefts.now.round) (leaves moment.done.now) moment.order.now
    (λ id member. (refl, moment.left id member))) c.marked_alongs.ensures
