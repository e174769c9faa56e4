use Rattle.std.proofs.Common.{false, subst, sym, Bool, List, ℕ, length}
use Rattle.std.proofs.lemmas.Result.{IfOk-weaker}
use Rattle.greedy_column.specs.Ending.{EndsOf}
use Rattle.greedy_column.specs.Lines.{own_lines}
use Rattle.greedy_column.proofs.moment.Moment.ends_of.Goals as goal

pub returns : goal.returns
returns g c =
    let may = g.C.Chooses.answers c.args.self.now.chooser.now in
    let own = own_lines c.args.net c.args.tracks.now in
    IfOk-weaker c.ends_but_one.result _ _ (λ ending is.
    subst (λ (b : Bool). EndsOf may (length c.args.tracks.now) c.args.next own b c.args.group.items ending.items) (sym c.if-given_up.false)
    (subst (λ (l : List ℕ). EndsOf may (length c.args.tracks.now) c.args.next own false l ending.items) c.deref.ensures.value is)) c.ends_but_one.ensures
