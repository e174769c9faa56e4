use Rattle.std.proofs.Common.{◌≡◌, ◌↔◌, ◌<◌, ◌+◌, ◌∙◌, ℕ, List, length, ap, sym, subst, refl, inl, inr, arith, replicate}
use Rattle.std.specs.Prelude.{slice_index}
use Rattle.std.specs.List.{enumerate_from}
use Rattle.std.specs.List.Sorted.{IsPermutation}
use Rattle.std.proofs.lemmas.Bool.{cases_eq, cases_lt}
use Rattle.std.proofs.lemmas.List.{get_or-replicate, length-replicate}
use Rattle.close_rects.proofs.SetLaws.{all_stand, none_else}
use Rattle.geom_core.specs.Extent.{Extent}
use Rattle.geom_extract.specs.Webs.{Chain, IsWeb, Linked, Web}
use Rattle.geom_extract.specs.Walks.{IsFree, IsGrown, IsOfWalk, IsQueued, IsRest, IsSettled, IsWalk}
use Rattle.geom_extract.specs.Webs.Chain.{here, step}
use Rattle.geom_extract.proofs.Reached.{grown-free}

-- what the walk has come to, as far as it has a class
pub of_walk : (web : Web) (start : ℕ) (before classes queue : List ℕ) (x : ℕ) → IsWalk web start before classes queue
    → x < length web.asks → IsFree before x → (IsFree classes x → ⊥) → IsOfWalk web start before classes x
of_walk web start before classes queue x walk shape free busy =
    let q : IsQueued queue x = walk.given x shape free busy in
    subst (λ (y : ℕ). IsOfWalk web start before classes y) q.is (walk.queued q.place q.within)

pub linked-shape : (web : Web) (x y : ℕ) → IsWeb web → Linked web x y → y < length web.asks
linked-shape web x y is link = elim link.leads [
  | inl first ↦ is.ends first.number y first.is_end
  | inr later ↦ elim later [ inl second ↦ is.ends second.number y second.is_end | inr third ↦ is.ends third.number y third.is_end ]
]

-- after a walk whose queue has been gone through, classes are settled
pub settled-walk : (web : Web) (start : ℕ) (before classes queue : List ℕ) (stock left : List (ℕ × Extent)) → IsWeb web
    → start < length web.asks → IsSettled web before stock → IsRest web classes left → IsWalk web start before classes queue
    → ((i y : ℕ) → i < length queue → Linked web (slice_index queue i) y → IsFree classes y → ⊥) → IsSettled web classes left
settled-walk web start before classes queue stock left is within settled rest walk done = record {
  rest = rest;
  chain = λ x shape busy. elim (cases_eq (slice_index before x) 4294967295) [
    | inl free ↦
        let of : IsOfWalk web start before classes x = of_walk web start before classes queue x walk shape free busy in
        subst (λ (c : ℕ). Chain web c x) (sym of.class) of.chain
    | inr was ↦ subst (λ (c : ℕ). Chain web c x) (sym (walk.kept x was)) (settled.chain x shape was)
  ];
  closed = λ x y shape busy link. elim (cases_eq (slice_index before x) 4294967295) [
    | inl free ↦
        let of : IsOfWalk web start before classes x = of_walk web start before classes queue x walk shape free busy in
        let q : IsQueued queue x = walk.given x shape free busy in
        let came : IsFree classes y → ⊥ = done q.place y q.within (subst (λ (z : ℕ). Linked web z y) (sym q.is) link) in
        let other : y < length web.asks = linked-shape web x y is link in
        elim (cases_eq (slice_index before y) 4294967295) [
          | inl free_too ↦
              let of_other : IsOfWalk web start before classes y = of_walk web start before classes queue y walk other free_too came in
              of_other.class ∙ sym of.class
          | inr was ↦ absurd (was (sym (settled.closed y x other was (is.both_ways x y link)) ∙ free))
        ]
    | inr was ↦
        let old : slice_index before y ≡ slice_index before x = settled.closed x y shape was link in
        walk.kept y (λ free. was (sym old ∙ free)) ∙ old ∙ sym (walk.kept x was)
  ];
}

chain-before : (web : Web) (x y z : ℕ) → Linked web x y → Chain web y z → Chain web x z
chain-before web x y z link here = step y here link
chain-before web x y z link (step w chain next) = step w (chain-before web x y _ link chain) next

pub chain-turned : (web : Web) (x y : ℕ) → IsWeb web → Chain web x y → Chain web y x
chain-turned web x y is here = here
chain-turned web x y is (step z chain next) = chain-before web z _ x (is.both_ways _ z next) (chain-turned web x _ is chain)

pub chain-more : (web : Web) (x y z : ℕ) → Chain web x y → Chain web y z → Chain web x z
chain-more web x y z first here = first
chain-more web x y z first (step w chain next) = step w (chain-more web x y _ first chain) next

-- settled classes are equal along a chain
pub settled-along : (web : Web) (classes : List ℕ) (stock : List (ℕ × Extent)) (x y : ℕ) → IsWeb web → IsSettled web classes stock
    → x < length web.asks → ((z : ℕ) → z < length web.asks → IsFree classes z → ⊥) → Chain web x y
    → (slice_index classes x ≡ slice_index classes y) × (y < length web.asks)
settled-along web classes stock x y is settled shape all here = (refl, shape)
settled-along web classes stock x y is settled shape all (step z chain next) =
    let before = settled-along web classes stock x _ is settled shape all chain in
    (before.0 ∙ sym (settled.closed _ z before.1 (all _ before.1) next), linked-shape web _ z is next)

pub settled-joined : (web : Web) (classes : List ℕ) (stock : List (ℕ × Extent)) (x y : ℕ) → IsWeb web → IsSettled web classes stock
    → x < length web.asks → y < length web.asks → ((z : ℕ) → z < length web.asks → IsFree classes z → ⊥)
    → slice_index classes x ≡ slice_index classes y → Chain web x y
settled-joined web classes stock x y is settled shape other all same =
    let first : Chain web (slice_index classes x) x = settled.chain x shape (all x shape) in
    let second : Chain web (slice_index classes x) y = subst (λ (c : ℕ). Chain web c y) (sym same) (settled.chain y other (all y other)) in
    chain-more web x (slice_index classes x) y (chain-turned web (slice_index classes x) x is first) second

-- where each shape has a class, equal classes and chains are the same
pub settled-exact : (web : Web) (classes : List ℕ) (stock : List (ℕ × Extent)) → IsWeb web → IsSettled web classes stock
    → ((z : ℕ) → z < length web.asks → IsFree classes z → ⊥) → (x y : ℕ) → x < length classes → y < length classes
    → (slice_index classes x ≡ slice_index classes y) ↔ Chain web x y
settled-exact web classes stock is settled all x y shape other =
    let len : length classes ≡ length web.asks = settled.rest.len in (
      λ same. settled-joined web classes stock x y is settled (omega arith) (omega arith) all same,
      λ chain. (settled-along web classes stock x y is settled (omega arith) all chain).0,
    )

-- before any walk no shape has a class, and all rectangles are there
pub settled-start : (web : Web) (classes : List ℕ) (stock : List (ℕ × Extent)) → classes ≡ replicate (length web.asks) 4294967295
    → IsPermutation (enumerate_from 0 web.rects) stock → IsSettled web classes stock
settled-start web classes stock is moved =
    let none : (x : ℕ) → x < length web.asks → IsFree classes x = λ x shape.
    ap (λ (t : List ℕ). slice_index t x) is ∙ get_or-replicate (length web.asks) x 4294967295 0 shape in
    record {
      rest = record {
        len = ap length is ∙ length-replicate (length web.asks) 4294967295;
        from = λ p among. none_else web.rects stock p moved among;
        free = λ number shape rect is_rect is_end free. all_stand web.rects stock number rect moved is_rect;
      };
      chain = λ x shape busy. absurd (busy (none x shape));
      closed = λ x y shape busy link. absurd (busy (none x shape));
    }

-- one shape more has a class
pub given-more : (classes after : List ℕ) (start : ℕ) → IsGrown classes after → (IsFree after start → ⊥)
    → ((x : ℕ) → x < start → IsFree classes x → ⊥) → (x : ℕ) → x < start + 1 → IsFree after x → ⊥
given-more classes after start grown given before x below free = elim (cases_lt x start) [
  | inl less ↦ before x less (grown-free classes after x grown free)
  | inr past ↦
      let same : x ≡ start = omega arith in
      given (subst (λ (y : ℕ). IsFree after y) same free)
]
