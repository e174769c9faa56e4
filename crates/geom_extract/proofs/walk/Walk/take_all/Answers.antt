use Rattle.geom_extract.proofs.walk.Walk.take_all.Goals as goal
use Rattle.std.proofs.Common.{◌≡◌, ◌<◌, ◌∙◌, ap, length, arith}
use Rattle.close_rects.proofs.SetLaws.{NoneIn-at}
use Rattle.geom_core.specs.Rectangles.{Meet}
use Rattle.geom_extract.specs.Walks.{Walking}
use Rattle.geom_extract.specs.Webs.{IsWeb, Web}
use Rattle.geom_extract.proofs.Reached.{grown-more, longer-more, reached-grown, reached-longer, rest-taken, start_is_class, taken-leads, taken-number, walk-reached}
use Rattle.std_laws.proofs.Places.{get-read}

pub index-x-requires : goal.index-x-requires
index-x-requires c =
    let web : c.self.inside.web.now ≡ c.args.self.now.web = ap (λ (w : Walking). w.web) c.self.view_is in
    let good : IsWeb c.args.self.now.web = rw (← web, ← c.web.view_is) c.web.invariant in
    let ends : c.web.inside.ends.items ≡ c.args.self.now.web.ends = ap (λ (w : Web). w.ends) (c.web.view_is ∙ web) in
    let number = taken-number c.args.self.now.web c.loop-number.self-inside.classes.items _ _ _ _ good c.loop-number.invariant.rest c.in-Some.ensures.taken in
    omega (arith, number, ap length ends, c.web.inside.ends.ok)

pub loop-number-preserved : goal.loop-number-preserved
loop-number-preserved c =
    let web : c.self.inside.web.now ≡ c.args.self.now.web = ap (λ (w : Walking). w.web) c.self.view_is in
    let good : IsWeb c.args.self.now.web = rw (← web, ← c.web.view_is) c.web.invariant in
    let ends : c.web.inside.ends.items ≡ c.args.self.now.web.ends = ap (λ (w : Web). w.ends) (c.web.view_is ∙ web) in
    let number = taken-number c.args.self.now.web c.loop-number.self-inside.classes.items _ _ _ _ good c.loop-number.invariant.rest c.in-Some.ensures.taken in
    let leads = get-read _ _ _ number (rw ends at c.index-x.ensures) in
    let within : c.index-x.result.now < length c.loop-number.self-inside.classes.items =
    omega (arith, good.ends c.in-Some.number c.index-x.result.now leads, c.loop-number.invariant.rest.len) in
    let start : c.args.self.now.start < length c.args.self.now.web.asks = rw (← c.self.view_is) c.self.invariant.start in
    let class = start_is_class c.args.self.now.web c.args.self.now.start good start in
    let reached = rw c.loop-number.invariant.start at c.in_ok-reach.ensures.reached in
    let led = taken-leads c.args.self.now.web _ _ _ _ _ _ c.loop-number.invariant.rest c.in-Some.ensures.taken leads in
    record {
      web = c.loop-number.invariant.web;
      start = c.loop-number.invariant.start;
      rest = rest-taken c.args.self.now.web _ _ _ _ _ _ _ _ _ _ c.loop-number.invariant.rest c.in-Some.ensures.taken leads within class reached;
      grown = grown-more _ _ _ c.loop-number.invariant.grown (reached-grown _ _ _ _ _ _ reached);
      longer = longer-more _ _ _ c.loop-number.invariant.longer (reached-longer _ _ _ _ _ _ reached);
      walk = λ before chains began. walk-reached c.args.self.now.web _ _ before _ _ _ _ (good.ends c.in-Some.number c.index-x.result.now leads)
          c.loop-number.invariant.rest.len class (chains c.index-x.result.now led) reached (c.loop-number.invariant.walk before chains began);
    }

pub invariant_of-self : goal.invariant_of-self
invariant_of-self c =
    let web : c.self.inside.web.now ≡ c.args.self.now.web = ap (λ (w : Walking). w.web) c.self.view_is in
    let good : IsWeb c.args.self.now.web = rw (← web, ← c.web.view_is) c.web.invariant in
    let ends : c.web.inside.ends.items ≡ c.args.self.now.web.ends = ap (λ (w : Web). w.ends) (c.web.view_is ∙ web) in
    let number = taken-number c.args.self.now.web c.loop-number.self-inside.classes.items _ _ _ _ good c.loop-number.invariant.rest c.in-Some.ensures.taken in
    let leads = get-read _ _ _ number (rw ends at c.index-x.ensures) in
    let within : c.index-x.result.now < length c.loop-number.self-inside.classes.items =
    omega (arith, good.ends c.in-Some.number c.index-x.result.now leads, c.loop-number.invariant.rest.len) in
    let start : c.args.self.now.start < length c.args.self.now.web.asks = rw (← c.self.view_is) c.self.invariant.start in
    let class = start_is_class c.args.self.now.web c.args.self.now.start good start in
    let reached = rw c.loop-number.invariant.start at c.in_err-reach.ensures.begun in
    record {
      rest = rw c.loop-number.invariant.web
          (rest-taken c.args.self.now.web _ _ _ _ _ _ _ _ _ _ c.loop-number.invariant.rest c.in-Some.ensures.taken leads within class reached);
      start = rw (c.loop-number.invariant.start, c.loop-number.invariant.web) start;
    }

pub returns-clause-gone : goal.returns-clause-gone
returns-clause-gone c = record {
  grown = c.loop-number.invariant.grown;
  longer = c.loop-number.invariant.longer;
  walk = c.loop-number.invariant.walk;
  reached = λ y leads free.
      NoneIn-at (Meet c.args.ask.now) c.loop-number.self-inside.set (leads.number, leads.rect) c.in_default.ensures.none
      (c.loop-number.invariant.rest.free leads.number y leads.rect leads.is_rect leads.is_end free) leads.meets;
}
