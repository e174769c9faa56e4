use Rattle.std.proofs.Common.{◌≡◌, ◌<◌, ◌++◌, true, eqb, ℕ, List, [], inl, inr, refl, subst, ◌∙◌, arith, Contains, length, get_or, filter}
use Rattle.std.proofs.lemmas.Bool.{cases_lt}
use Rattle.std.proofs.lemmas.Bool.Decides.{nat_tests}
use Rattle.std.proofs.lemmas.List.{get_or_default, get_or_past}
use Rattle.std.proofs.lemmas.List.Elements.{All-filter, All-contains_itself, All-contains, filter_passes, Contains-append_left, Contains-append_right, Contains-append_cases, Contains-get_or}
use Rattle.std.proofs.lemmas.List.Filters.{dedup_is}
use Rattle.std.proofs.lemmas.List.Kept.{Contains-dedup_nat, Contains-from_dedup}
use Rattle.std.proofs.lemmas.List.Sorted.{Contains-permutation, IsPermutation-sym}
use Rattle.std.proofs.lemmas.Map.Keys.{IsStrictlyIncreasing-dedup}
use Rattle.std.specs.List.{dedup}
use Rattle.std.specs.List.Retain.{IsFiltered, DiffersFromLast}
use Rattle.std.specs.List.Sorted.{IsPermutation, IsSorted}
use Rattle.std.specs.Ordering.{nat_cmp}
use Rattle.channel_model.specs.Pins.{Pins, is_pin}
use Rattle.channel_model.specs.Nets.{AreNets, StandsIn}
use Rattle.std_laws.proofs.Members.{filter-stands}

is_pin-true : (net : ℕ) → 0 < net → is_pin net ≡ true
is_pin-true net positive = grind (arith, nat_tests)

positive_from : (net : ℕ) → is_pin net ≡ true → 0 < net
positive_from net pin = grind (arith, nat_tests)

-- a net with a pin stands among the pins other than 0
among : (side : List ℕ) (column net : ℕ) → 0 < net → get_or side column 0 ≡ net → Contains side net
among side column net positive at =
    elim (cases_lt column (length side)) [
      | inl within ↦ subst (λ n. Contains side n) at (Contains-get_or side column 0 within)
      | inr past ↦ let none = get_or_past side column 0 past in absurd (omega arith)
    ]

pub pins-contain : (pins : Pins) (net : ℕ) → StandsIn pins net → Contains (filter is_pin (pins.top ++ pins.bottom)) net
pins-contain pins net stands =
    let positive = stands.0 in
    let column = stands.1.0 in
    let member : Contains (pins.top ++ pins.bottom) net = elim stands.1.1 [
      | inl top ↦ Contains-append_left pins.top pins.bottom net (among pins.top column net positive top)
      | inr bottom ↦ Contains-append_right pins.top pins.bottom net (among pins.bottom column net positive bottom)
    ] in
    let there : get_or (pins.top ++ pins.bottom) member.0 0 ≡ net =
    get_or_default (pins.top ++ pins.bottom) member.0 0 net member.1 ∙ member.2 in
    subst (λ n. Contains (filter is_pin (pins.top ++ pins.bottom)) n) there
    (filter-stands is_pin (pins.top ++ pins.bottom) member.0 member.1 (rw there (is_pin-true net positive)))

stands_at : (side : List ℕ) (net : ℕ) → Contains side net → (column : ℕ) × (get_or side column 0 ≡ net)
stands_at side net member = (member.0, get_or_default side member.0 0 net member.1 ∙ member.2)

pub pins-stand : (pins : Pins) (net : ℕ) → Contains (filter is_pin (pins.top ++ pins.bottom)) net → StandsIn pins net
pins-stand pins net member =
    let all = pins.top ++ pins.bottom in
    let pin : is_pin net ≡ true = All-contains (λ n. is_pin n ≡ true) (filter is_pin all) net (filter_passes is_pin all) member in
    let here : Contains all net = All-contains (Contains all) (filter is_pin all) net (All-filter is_pin (Contains all) all (All-contains_itself all)) member in
    elim (Contains-append_cases pins.top pins.bottom net here) [
      | inl top ↦ let at = stands_at pins.top net top in (positive_from net pin, (at.0, inl at.1))
      | inr bottom ↦ let at = stands_at pins.bottom net bottom in (positive_from net pin, (at.0, inr at.1))
    ]

-- the pins of a channel, sorted and each kept once, are its nets
pub AreNets-from_sort : (pins : Pins) (top bottom items sorted nets : List ℕ) → top ≡ pins.top → bottom ≡ pins.bottom
    → items ≡ filter is_pin (top ++ bottom) → IsPermutation items sorted
    → IsSorted nat_cmp sorted → IsFiltered (DiffersFromLast eqb) [] sorted nets → AreNets pins nets
AreNets-from_sort pins top bottom items sorted nets first second made permutation order filtered =
    let is : nets ≡ dedup eqb sorted = dedup_is eqb sorted nets filtered in
    let all : List ℕ = filter is_pin (pins.top ++ pins.bottom) in
    let same : IsPermutation all sorted = rw (made, first, second) at permutation in
    rw is record {
      ascending = IsStrictlyIncreasing-dedup sorted order;
      standing = λ net member. pins-stand pins net
          (Contains-permutation sorted all net (IsPermutation-sym all sorted same) (Contains-from_dedup eqb sorted net member));
      listed = λ net stands. Contains-dedup_nat sorted net (Contains-permutation all sorted net same (pins-contain pins net stands));
    }

-- a pin along an edge is of a listed net
pub listed_top : (pins : Pins) (nets side : List ℕ) → side ≡ pins.top → AreNets pins nets
    → (column : ℕ) → 0 < get_or side column 0 → Contains nets (get_or side column 0)
listed_top pins nets side is are column some = rw is (are.listed (get_or pins.top column 0) (rw is at some, (column, inl refl)))

pub listed_bottom : (pins : Pins) (nets side : List ℕ) → side ≡ pins.bottom → AreNets pins nets
    → (column : ℕ) → 0 < get_or side column 0 → Contains nets (get_or side column 0)
listed_bottom pins nets side is are column some = rw is (are.listed (get_or pins.bottom column 0) (rw is at some, (column, inr refl)))
