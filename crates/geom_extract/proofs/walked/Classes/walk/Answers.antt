use Rattle.std.proofs.Common.{◌≡◌, ◌<◌, ◌≤◌, ◌∙◌, [], ◌∷◌, ◌++◌, ℕ, List, length, set, ap, refl, sym, subst, inl, inr, arith}
use Rattle.std.specs.Prelude.{slice_index}
use Rattle.std.proofs.lemmas.Bool.{cases_lt}
use Rattle.std.proofs.lemmas.Grind.{get_or_default_zero}
use Rattle.geom_extract.specs.Walks.{Classed, IsFree, IsWalk, Walking}
use Rattle.geom_extract.specs.Webs.{IsWeb, Linked, Web}
use Rattle.geom_extract.specs.Webs.Chain.{step}
use Rattle.geom_extract.proofs.Reached.{grown-free, start-given, walk-begun}
use Rattle.geom_extract.proofs.Settled.{settled-walk}
use Rattle.geom_extract.proofs.walked.Classes.walk.Goals as goal

pub loop-at-init : goal.loop-at-init
loop-at-init c =
    let good : IsWeb c.self.inside.web.now = rw (← c.web.view_is) c.web.invariant in
    let len = c.self.invariant.rest.len in
    let below : c.args.start < length c.self.inside.list.items = omega arith in
    let read = c.index.ensures ∙ get_or_default_zero c.self.inside.list.items c.args.start c.index.result.now below in
    let free : IsFree c.self.inside.list.items c.args.start = sym read ∙ c.if-index.false in
    let within : c.args.start < length c.self.inside.web.now.asks = omega arith in
    let pushed : c.push.new.self.items ≡ [] ++ c.args.start ∷ [] = cc (c.in_ok-push.ensures.items, c.new-queue.ensures.items) in
    rw (← c.self.view_is) (record {
      web = refl;
      start = refl;
      walk = subst (λ (q : List ℕ). IsWalk c.self.inside.web.now c.args.start c.self.inside.list.items (set c.self.inside.list.items c.args.start c.args.start) q) (sym pushed)
          (walk-begun c.self.inside.web.now c.args.start c.self.inside.list.items good within len free);
      within = omega arith;
      begun = start-given c.self.inside.web.now c.args.start c.self.inside.list.items good within len;
      done = λ i y below. absurd (omega arith);
    })

pub loop-at-preserved : goal.loop-at-preserved
loop-at-preserved c =
    let gone = rw (c.loop-at.invariant.web, c.loop-at.invariant.start) at c.in_ok-visit.ensures.gone in
    let more : length c.loop-at.walk.queue ≤ length c.visit.new.self.queue = gone.longer.len in
    let queue : c.walk.inside.queue.items ≡ c.loop-at.walk.queue = ap (λ (w : Walking). w.queue) c.walk.view_is in
    let here : c.loop-at.at < length c.loop-at.walk.queue = omega (arith, ap length queue) in
    let x : c.index-x.result.now ≡ slice_index c.loop-at.walk.queue c.loop-at.at =
    (rw queue at c.index-x.ensures) ∙ get_or_default_zero c.loop-at.walk.queue c.loop-at.at c.index-x.result.now here in
    let of = c.loop-at.invariant.walk.queued c.loop-at.at here in
    record {
      web = c.visit.ensures.web ∙ c.loop-at.invariant.web;
      start = c.visit.ensures.start ∙ c.loop-at.invariant.start;
      walk = gone.walk c.args.self.classes (λ y link. step y (rw x of.chain) link) c.loop-at.invariant.walk;
      within = omega arith;
      begun = λ free. c.loop-at.invariant.begun (grown-free c.loop-at.walk.classes c.visit.new.self.classes c.args.start gone.grown free);
      done = λ i y below link free. elim (cases_lt i c.loop-at.at) [
        | inl less ↦
            let inside : i < length c.loop-at.walk.queue = omega arith in
            c.loop-at.invariant.done i y less (subst (λ (z : ℕ). Linked c.args.self.web z y) (gone.longer.same i inside) link)
            (grown-free c.loop-at.walk.classes c.visit.new.self.classes y gone.grown free)
        | inr past ↦
            let same : i ≡ c.loop-at.at = omega arith in
            let reads : slice_index c.visit.new.self.queue i ≡ c.index-x.result.now =
            ap (λ (k : ℕ). slice_index c.visit.new.self.queue k) same ∙ gone.longer.same c.loop-at.at here ∙ sym x in
            gone.reached y (subst (λ (z : ℕ). Linked c.args.self.web z y) reads link) free
      ];
    }

pub invariant_of-result : goal.invariant_of-result
invariant_of-result c =
    let good : IsWeb c.args.self.web = rw (← c.self.view_is, ← c.web.view_is) c.web.invariant in
    let web : c.walk.inside.web.now ≡ c.args.self.web = ap (λ (w : Walking). w.web) c.walk.view_is ∙ c.loop-at.invariant.web in
    let classes : c.walk.inside.classes.items ≡ c.loop-at.walk.classes = ap (λ (w : Walking). w.classes) c.walk.view_is in
    let queue : c.walk.inside.queue.items ≡ c.loop-at.walk.queue = ap (λ (w : Walking). w.queue) c.walk.view_is in
    let before : c.self.inside.web.now ≡ c.args.self.web = ap (λ (k : Classed). k.web) c.self.view_is in
    let list : c.self.inside.list.items ≡ c.args.self.classes = ap (λ (k : Classed). k.classes) c.self.view_is in
    let stop : length c.loop-at.walk.queue ≤ c.loop-at.at = omega (arith, ap length queue) in
    rw (web, classes) (settled-walk c.args.self.web c.args.start c.args.self.classes c.loop-at.walk.classes c.loop-at.walk.queue c.self.inside.set c.walk.inside.set good
    (omega (arith, c.self.invariant.rest.len, ap (λ (w : Web). length w.asks) before)) (rw (before, list) at c.self.invariant) (rw (web, classes) at c.walk.invariant.rest) c.loop-at.invariant.walk
    (λ i y inside link free. c.loop-at.invariant.done i y (omega arith) link free))
