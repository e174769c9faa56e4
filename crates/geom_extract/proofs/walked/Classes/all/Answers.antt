use Rattle.std.proofs.Common.{◌≡◌, ◌∙◌, ap, length, arith}
use Rattle.geom_extract.specs.Walks.{Classed}
use Rattle.geom_extract.specs.Webs.{IsWeb, Web}
use Rattle.geom_extract.proofs.Settled.{given-more, settled-exact}
use Rattle.geom_extract.proofs.walked.Classes.all.Goals as goal

pub loop-start-preserved : goal.loop-start-preserved
loop-start-preserved c = record {
  web = c.in_ok-classes-2.ensures.web ∙ c.loop-start.invariant.web;
  done = given-more _ _ c.loop-start.start c.in_ok-classes-2.ensures.grown c.in_ok-classes-2.ensures.reached c.loop-start.invariant.done;
}

pub returns-clause-classes : goal.returns-clause-classes
returns-clause-classes c =
    let good : IsWeb c.args.web.now = rw (← c.web.view_is) c.web.invariant in
    let web : c.classes.inside.web.now ≡ c.args.web.now = ap (λ (k : Classed). k.web) c.classes.view_is ∙ c.loop-start.invariant.web in
    let list : c.classes.inside.list.items ≡ c.loop-start.classes.classes = ap (λ (k : Classed). k.classes) c.classes.view_is in
    rw list (settled-exact c.args.web.now _ _ good (rw (web, list) at c.classes.invariant)
    (λ z within. c.loop-start.invariant.done z (omega (arith, within, ap (λ (w : Web). length w.asks) c.web.view_is))))
