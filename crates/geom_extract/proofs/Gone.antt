use Rattle.std.proofs.Common.{◌≡◌, ℕ, List, Some, inl, inr}
use Rattle.std.specs.List.{slice_get}
use Rattle.geom_extract.specs.declared.asker.Asks.{Asks}
use Rattle.geom_extract.specs.Walks.{IsFree, IsGone}
use Rattle.geom_extract.specs.Webs.{Leads, Linked, Web}
use Rattle.geom_extract.proofs.Reached.{grown-free, grown-more, linked-any, longer-more}

-- all to which the three rectangles of a shape lead are those to which it is linked
pub gone-asked : (web : Web) (start x : ℕ) (asks : Asks) (before one two after queue longer further last : List ℕ)
    → slice_get web.asks x ≡ Some asks → IsGone web start (Leads web asks.first) before queue one longer
    → IsGone web start (Leads web asks.second) one longer two further → IsGone web start (Leads web asks.third) two further after last
    → IsGone web start (Linked web x) before queue after last
gone-asked web start x asks before one two after queue longer further last is first second third = record {
  grown = grown-more before one after first.grown (grown-more one two after second.grown third.grown);
  longer = longer-more queue longer last first.longer (longer-more longer further last second.longer third.longer);
  walk = λ began chain walk.
      third.walk began (λ y leads. chain y (record { asks = asks; is_asks = is; leads = inr (inr leads) }))
      (second.walk began (λ y leads. chain y (record { asks = asks; is_asks = is; leads = inr (inl leads) }))
      (first.walk began (λ y leads. chain y (record { asks = asks; is_asks = is; leads = inl leads })) walk));
  reached = λ y link free.
      let late : IsFree two y = grown-free two after y third.grown free in
      linked-any web x y asks ⊥ is (λ leads. first.reached y leads (grown-free one two y second.grown late)) (λ leads. second.reached y leads late)
      (λ leads. third.reached y leads free) link;
}
