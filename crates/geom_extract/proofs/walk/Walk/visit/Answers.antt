use Rattle.std.proofs.Common.{◌≡◌, ◌∙◌, List, Some, ap, get_or, refl}
use Rattle.std.proofs.lemmas.Option.{slice_get_read}
use Rattle.std.specs.List.{slice_get}
use Rattle.geom_extract.specs.declared.asker.Asks.{Asks}
use Rattle.geom_extract.specs.Walks.{Walking}
use Rattle.geom_extract.specs.Webs.{Web}
use Rattle.geom_extract.proofs.Gone.{gone-asked}
use Rattle.geom_extract.proofs.walk.Walk.visit.Goals as goal

pub returns-clause-gone : goal.returns-clause-gone
returns-clause-gone c =
    let asks : c.web.inside.asks.items ≡ c.args.self.now.web.asks = ap (λ (w : Web). w.asks) (c.web.view_is ∙ ap (λ (w : Walking). w.web) c.self.view_is) in
    let read : c.index.result.now ≡ get_or c.args.self.now.web.asks c.args.x c.index.result.now =
    c.index.ensures ∙ ap (λ (t : List Asks). get_or t c.args.x c.index.result.now) asks in
    let is : slice_get c.args.self.now.web.asks c.args.x ≡ Some c.asks-asks.result = rw c.asks-asks.ensures (slice_get_read c.args.self.now.web.asks _ c.args.x c.index.result.now refl c.requires read) in
    let second = rw (c.take_all.ensures.web, c.take_all.ensures.start) at c.in_ok-take_all-2.ensures.gone in
    let third = rw (c.take_all-2.ensures.web, c.take_all-2.ensures.start, c.take_all.ensures.web, c.take_all.ensures.start) at c.in_ok-take_all-3.ensures.gone in
    gone-asked c.args.self.now.web c.args.self.now.start c.args.x c.asks-asks.result _ _ _ _ _ _ _ _ is c.in_ok-take_all.ensures.gone second third
