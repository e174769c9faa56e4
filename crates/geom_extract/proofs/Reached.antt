use Rattle.std.proofs.Common.{◌≡◌, ◌≢◌, ◌<◌, ◌≤◌, ◌+◌, ◌==◌, ◌^◌, ◌∙◌, ◌⊎◌, ℕ, List, [], ◌∷◌, ◌++◌, cond, Some, length, set, get_or, ap, sym, subst, refl, inl, inr, arith, length-set}
use Rattle.std.specs.List.{slice_get}
use Rattle.std.specs.Prelude.{slice_index}
use Rattle.std.proofs.lemmas.Bool.{cases_eq, cases_lt, eq-eqb, ne_eqb}
use Rattle.std.proofs.lemmas.List.{get_or-set_same, get_or-set_other, get_or_append_left, length_push}
use Rattle.std.proofs.lemmas.Option.{slice_get_within}
use Rattle.std.proofs.lemmas.List.Sums.{sum_by-set, count_by-le-length}
use Rattle.std.proofs.Math.Seq.{get_or-append_seam}
use Rattle.geom_core.specs.Extent.{Extent}
use Rattle.close_rects.specs.RectSets.{Takes}
use Rattle.close_rects.proofs.SetLaws.{after-contains, before-contains, taken-contains}
use Rattle.geom_extract.specs.declared.asker.Asks.{Asks}
use Rattle.geom_extract.specs.Webs.{Chain, IsWeb, Leads, Linked, Web}
use Rattle.geom_extract.specs.Walks.{IsFree, IsGrown, IsLonger, IsOfWalk, IsQueued, IsReached, IsRest, IsWalk, free_in}
use Rattle.geom_extract.specs.Walks.IsReached.{known, found}
use Rattle.geom_extract.specs.Webs.Chain.{here}

-- the number of a shape is no sign that a shape has no class
pub start_is_class : (web : Web) (start : ℕ) → IsWeb web → start < length web.asks → start ≢ 4294967295
start_is_class web start is within = λ same.
    let few : length web.asks < 2 ^ 32 = is.few_shapes in
    omega arith

pub grown-refl : (classes : List ℕ) → IsGrown classes classes
grown-refl classes = λ x busy. refl

pub grown-free : (before after : List ℕ) (x : ℕ) → IsGrown before after → IsFree after x → IsFree before x
grown-free before after x grown free = elim (cases_eq (slice_index before x) 4294967295) [
  | inl same ↦ same
  | inr busy ↦ sym (grown x busy) ∙ free
]

pub grown-more : (before between after : List ℕ) → IsGrown before between → IsGrown between after → IsGrown before after
grown-more before between after first second =
    λ x busy. second x (λ free. busy (grown-free before between x first free)) ∙ first x busy

pub longer-refl : (queue : List ℕ) → IsLonger queue queue
longer-refl queue = record { len = omega arith; same = λ i within. refl }

pub longer-more : (before between after : List ℕ) → IsLonger before between → IsLonger between after → IsLonger before after
longer-more before between after first second =
    let one : length before ≤ length between = first.len in
    let two : length between ≤ length after = second.len in
    record { len = omega arith; same = λ i within. second.same i (omega arith) ∙ first.same i within }

pub reached-len : (x start : ℕ) (before after queue longer : List ℕ) → IsReached x start before after queue longer → length after ≡ length before
reached-len x start before after queue longer (known busy same kept) = ap length same
reached-len x start before after queue longer (found free is push) = ap length is ∙ length-set before x start

pub reached-at : (x start : ℕ) (before after queue longer : List ℕ) → x < length before → start ≢ 4294967295
    → IsReached x start before after queue longer → IsFree after x → ⊥
reached-at x start before after queue longer within class (known busy same kept) free = busy (subst (λ (t : List ℕ). IsFree t x) same free)
reached-at x start before after queue longer within class (found was is push) free =
    class (sym (get_or-set_same before x start 0 within) ∙ sym (ap (λ (t : List ℕ). slice_index t x) is) ∙ free)

pub reached-grown : (x start : ℕ) (before after queue longer : List ℕ) → IsReached x start before after queue longer → IsGrown before after
reached-grown x start before after queue longer (known busy same kept) = λ y was. ap (λ (t : List ℕ). slice_index t y) same
reached-grown x start before after queue longer (found free is push) = λ y busy.
    let apart : y ≢ x = λ same. busy (subst (λ (z : ℕ). IsFree before z) (sym same) free) in
    ap (λ (t : List ℕ). slice_index t y) is ∙ get_or-set_other before x y start 0 apart

pub reached-longer : (x start : ℕ) (before after queue longer : List ℕ) → IsReached x start before after queue longer → IsLonger queue longer
reached-longer x start before after queue longer (known busy same kept) = subst (λ (t : List ℕ). IsLonger queue t) (sym kept) (longer-refl queue)
reached-longer x start before after queue longer (found free is push) =
    let len : length longer ≡ length queue + 1 = ap length push ∙ length_push queue x in
    record {
      len = omega arith;
      same = λ i within. ap (λ (t : List ℕ). slice_index t i) push ∙ get_or_append_left queue (x ∷ []) 0 i within;
    }

-- the rectangle that led to a shape is taken when the shape has a class
pub rest-taken : (web : Web) (classes after queue longer : List ℕ) (stock left : List (ℕ × Extent)) (ask : Extent) (number x start : ℕ)
    → IsRest web classes stock → Takes ask number stock left → slice_get web.ends number ≡ Some x → x < length classes
    → start ≢ 4294967295 → IsReached x start classes after queue longer → IsRest web after left
rest-taken web classes after queue longer stock left ask number x start rest takes leads within class reached = record {
  len = reached-len x start classes after queue longer reached ∙ rest.len;
  from = λ p among. rest.from p (before-contains ask number stock left p takes among);
  free = λ other shape rect is_rect is_end free.
      elim (after-contains ask number stock left (other, rect) takes
      (rest.free other shape rect is_rect is_end (grown-free classes after shape (reached-grown x start classes after queue longer reached) free))) [
        | inl same ↦
            let one : number ≡ other = ap (λ (p : ℕ × Extent). p.0) same in
            let shapes : shape ≡ x = cc in
            absurd (reached-at x start classes after queue longer within class reached (subst (λ (y : ℕ). IsFree after y) shapes free))
        | inr still ↦ still
      ];
}

-- one shape less has no class when one gets a class
pub free_in-set : (classes : List ℕ) (x start : ℕ) → x < length classes → IsFree classes x → start ≢ 4294967295
    → free_in (set classes x start) + 1 ≡ free_in classes
free_in-set classes x start within free class =
    let weight : ℕ → ℕ = λ c. cond (c == 4294967295) 1 0 in
    let all : free_in (set classes x start) + weight (get_or classes x 0) ≡ free_in classes + weight start =
    sum_by-set weight classes x start 0 within in
    let one : weight (get_or classes x 0) ≡ 1 = ap (λ b. cond b 1 0) (eq-eqb (get_or classes x 0) 4294967295 free) in
    let none : weight start ≡ 0 = ap (λ b. cond b 1 0) (ne_eqb start 4294967295 class) in
    omega arith

walk-found : (web : Web) (start x : ℕ) (before classes after queue longer : List ℕ) → x < length web.asks
    → length classes ≡ length web.asks → start ≢ 4294967295 → Chain web start x → IsFree classes x → after ≡ set classes x start
    → longer ≡ queue ++ x ∷ [] → IsWalk web start before classes queue → IsWalk web start before after longer
walk-found web start x before classes after queue longer shape len class chain free is push walk =
    let within : x < length classes = omega arith in
    let reached : IsReached x start classes after queue longer = found free is push in
    let grown : IsGrown classes after = reached-grown x start classes after queue longer reached in
    let more : length longer ≡ length queue + 1 = ap length push ∙ length_push queue x in
    let on : IsLonger queue longer = reached-longer x start classes after queue longer reached in
    let last : slice_index longer (length queue) ≡ x = ap (λ (t : List ℕ). slice_index t (length queue)) push ∙ get_or-append_seam queue x [] 0 in
    let given_class : slice_index after x ≡ start = ap (λ (t : List ℕ). slice_index t x) is ∙ get_or-set_same classes x start 0 within in
    let newest : IsOfWalk web start before after x =
    record { shape = shape; free = grown-free before classes x walk.kept free; class = given_class; chain = chain } in
    let count : free_in after + 1 ≡ free_in classes = ap (λ (t : List ℕ). free_in t + 1) is ∙ free_in-set classes x start within free class in
    let room : length queue + free_in classes ≤ length web.asks = walk.room in
    record {
      kept = grown-more before classes after walk.kept grown;
      given = λ y is_shape was busy. elim (cases_eq y x) [
        | inl same ↦ record { place = length queue; within = omega arith; is = last ∙ sym same }
        | inr apart ↦
            let unchanged : slice_index after y ≡ slice_index classes y =
            ap (λ (t : List ℕ). slice_index t y) is ∙ get_or-set_other classes x y start 0 apart in
            let q : IsQueued queue y = walk.given y is_shape was (λ none. busy (unchanged ∙ none)) in
            let place_within : q.place < length queue = q.within in
            record { place = q.place; within = omega arith; is = on.same q.place q.within ∙ q.is }
      ];
      queued = λ i inside. elim (cases_lt i (length queue)) [
        | inl less ↦
            let of : IsOfWalk web start before classes (slice_index queue i) = walk.queued i less in
            let busy : IsFree classes (slice_index queue i) → ⊥ = λ none. class (sym of.class ∙ none) in
            let moved : IsOfWalk web start before after (slice_index queue i) =
            record { shape = of.shape; free = of.free; class = grown (slice_index queue i) busy ∙ of.class; chain = of.chain } in
            subst (λ (y : ℕ). IsOfWalk web start before after y) (sym (on.same i less)) moved
        | inr past ↦
            let place : i ≡ length queue = omega arith in
            subst (λ (y : ℕ). IsOfWalk web start before after y) (sym (ap (λ (k : ℕ). slice_index longer k) place ∙ last)) newest
      ];
      room = omega arith;
    }

pub walk-reached : (web : Web) (start x : ℕ) (before classes after queue longer : List ℕ) → x < length web.asks
    → length classes ≡ length web.asks → start ≢ 4294967295 → Chain web start x → IsReached x start classes after queue longer
    → IsWalk web start before classes queue → IsWalk web start before after longer
walk-reached web start x before classes after queue longer shape len class chain (known busy same kept) walk =
    subst (λ (t : List ℕ). IsWalk web start before t longer) (sym same) (subst (λ (t : List ℕ). IsWalk web start before classes t) (sym kept) walk)
walk-reached web start x before classes after queue longer shape len class chain (found free is push) walk =
    walk-found web start x before classes after queue longer shape len class chain free is push walk

-- a walk begins with its first shape
pub walk-begun : (web : Web) (start : ℕ) (classes : List ℕ) → IsWeb web → start < length web.asks → length classes ≡ length web.asks
    → IsFree classes start → IsWalk web start classes (set classes start start) ([] ++ start ∷ [])
walk-begun web start classes is shape len free =
    walk-found web start start classes classes (set classes start start) [] ([] ++ start ∷ []) shape len (start_is_class web start is shape) here
    free refl refl (record {
      kept = grown-refl classes;
      given = λ x within was busy. absurd (busy was);
      queued = λ i within. absurd (omega arith);
      room = omega (arith, count_by-le-length (λ (c : ℕ). c == 4294967295) classes);
    })

-- what is taken is one of the web's rectangles
pub taken-number : (web : Web) (classes : List ℕ) (stock left : List (ℕ × Extent)) (ask : Extent) (number : ℕ) → IsWeb web → IsRest web classes stock
    → Takes ask number stock left → number < length web.ends
taken-number web classes stock left ask number is rest takes =
    let within : number < length web.rects =
    slice_get_within _ _ _ (rest.from (number, takes.taken) (taken-contains ask number stock left takes)) in
    omega (arith, is.lengths)

pub taken-leads : (web : Web) (classes : List ℕ) (stock left : List (ℕ × Extent)) (ask : Extent) (number x : ℕ) → IsRest web classes stock
    → Takes ask number stock left → slice_get web.ends number ≡ Some x → Leads web ask x
taken-leads web classes stock left ask number x rest takes leads = record {
  number = number;
  rect = takes.taken;
  is_rect = rest.from (number, takes.taken) (taken-contains ask number stock left takes);
  is_end = leads;
  meets = takes.meets;
}

-- to whatever a shape is linked, one of its three rectangles leads there
pub linked-any : (web : Web) (x y : ℕ) (asks : Asks) (free : Type 0) → slice_get web.asks x ≡ Some asks → (Leads web asks.first y → free)
    → (Leads web asks.second y → free) → (Leads web asks.third y → free) → Linked web x y → free
linked-any web x y asks free is first second third link =
    let same : link.asks ≡ asks = cc (link.is_asks, is) in
    let leads = subst (λ (a : Asks). Leads web a.first y ⊎ (Leads web a.second y ⊎ Leads web a.third y)) same link.leads in
    elim leads [ inl one ↦ first one | inr more ↦ elim more [ inl two ↦ second two | inr three ↦ third three ] ]

-- the first shape of a walk has a class from then on
pub start-given : (web : Web) (start : ℕ) (classes : List ℕ) → IsWeb web → start < length web.asks → length classes ≡ length web.asks
    → IsFree (set classes start start) start → ⊥
start-given web start classes is shape len free =
    let within : start < length classes = omega arith in
    start_is_class web start is shape (sym (get_or-set_same classes start start 0 within) ∙ free)
