use Rattle.std.proofs.Common.{◌≡◌, ◌<◌, ◌+◌, ℕ, List, ap, sym, ◌∙◌, arith, length, map, refl, subst, sum}
use Rattle.std.proofs.lemmas.List.FromFn.{length-range_with_len}
use Rattle.std.proofs.lemmas.List.{length-map}
use Rattle.std.proofs.lemmas.Option.{slice_get_read}
use Rattle.std.specs.List.{range_with_len, AllByRecursion}
use Rattle.row_board.specs.Extreme.{across, alone_at_end, at_end, extreme_of}
use Rattle.row_board.specs.NetPins.{as_net_pin, net_pins, own_pin, pin_column}
use Rattle.row_board.specs.NetCosts.{Tabled}
use Rattle.row_board.specs.PinPlaces.{instance_column}
use Rattle.row_board.specs.Spot.{Spot}
use Rattle.row_board.specs.Spreads.{NumberLists}
use Rattle.row_board.specs.Standings.{standing_in}
use Rattle.row_board.specs.Trial.{ends_net, ends_net_alone, net_columns}
use Rattle.row_board.specs.declared.net_pins.InstancePin.{InstancePin}
use Rattle.row_board.specs.declared.net_pins.NetPin.{NetPin}
use Rattle.row_board.proofs.EndLaws.{net-told, own-few, own-of-nets, IsOfNet}
use Rattle.row_board.proofs.JoinLaws.{joined-few}
use Rattle.std_laws.proofs.Sums.{sum-cons}
use Rattle.row_board.proofs.net_costs.NetCosts.weighed.Goals as goal

pub index-standing-requires : goal.index-standing-requires
index-standing-requires c = omega (arith, c.requires.there, c.self.invariant.count, ap (λ (v : Tabled). length v.design.instances) c.self.view_is)

pub overflow_add-found : goal.overflow_add-found
overflow_add-found c = omega (arith, c.requires.low_under, c.joined.ensures, joined-few c.self.inside.nets c.args.instance c.self.invariant.good)

pub loop-pin-init : goal.loop-pin-init
loop-pin-init c =
    let d = c.self.inside.nets in
    let t = c.self.inside.standings.items in
    let own = c.of-rest.ensures.in_order in
    let few = own-few d c.args.instance c.of-rest.result.now c.self.invariant.good own in
    let few_joined = joined-few d c.args.instance c.self.invariant.good in
    record {
      of_nets = own-of-nets d c.args.instance c.of-rest.result.now c.self.invariant.good own;
      over = omega (arith, ap (λ (l : List (ℕ × NetPin)). sum (map (ends_net d t c.args.side) l)) own);
      under = omega (arith, c.joined.ensures, ap (λ (l : List (ℕ × NetPin)). sum (map (ends_net_alone d t (across c.args.side)) l)) own);
      few = omega (arith, few);
      few_under = omega (arith, few, few_joined, c.joined.ensures);
    }

pub ends-more-requires : goal.ends-more-requires
ends-more-requires c =
    let d = c.self.inside.nets in
    let t = c.self.inside.standings.items in
    let of = subst (λ (l : List InstancePin). AllByRecursion (IsOfNet d) (map (own_pin c.args.instance) l)) c.in-Some.ensures.cases.0 c.loop-pin.invariant.of_nets in
    omega (
      arith,
      of.0.0,
      ap (λ (v : NumberLists). length v.lists) c.self.invariant.columns,
      length-map (range_with_len 0 (length d.nets + 1)) (λ (net : ℕ). map (pin_column t) (net_pins d net)),
      length-range_with_len 0 (length d.nets + 1),
    )

pub loop-pin-preserved : goal.loop-pin-preserved
loop-pin-preserved c =
    let d = c.self.inside.nets in
    let t = c.self.inside.standings.items in
    let i : ℕ = c.args.instance in
    let pin = c.in-Some.pin.now in
    let rest = c.in-Some.ensures.cases.0 in
    let of = subst (λ (l : List InstancePin). AllByRecursion (IsOfNet d) (map (own_pin i) l)) rest c.loop-pin.invariant.of_nets in
    let lists = ap (λ (v : NumberLists). v.lists) c.self.invariant.columns in
    let within : i < length t = omega (arith, c.requires.there, c.self.invariant.count, ap (λ (v : Tabled). length v.design.instances) c.self.view_is) in
    let stands = ap standing_in (slice_get_read t (length t) i c.index-standing.result.now refl within c.index-standing.ensures) in
    let column : c.column_of-column.result ≡ pin_column t (as_net_pin i pin) =
    c.column_of-column.ensures.is ∙ ap (λ (s : Spot). instance_column s pin) (sym stands) in
    let one : c.ends-more.result.ends ≡ ends_net d t c.args.side (own_pin i pin) =
    net-told d t pin.net c.self.inside.columns.lists (λ (l : List ℕ). at_end (extreme_of c.args.side l) c.column_of-column.result) c.ends-more.result.ends lists of.0.0 of.0.1 c.ends-more.ensures.ends
    ∙ ap (λ (n : ℕ). at_end (extreme_of c.args.side (net_columns d t pin.net)) n) column in
    let one_alone : c.ends-more.result.alone ≡ ends_net_alone d t (across c.args.side) (own_pin i pin) =
    net-told d t pin.net c.self.inside.columns.lists (λ (l : List ℕ). alone_at_end (extreme_of (across c.args.side) l) c.column_of-column.result) c.ends-more.result.alone lists of.0.0 of.0.1
    c.ends-more.ensures.alone
    ∙ ap (λ (n : ℕ). alone_at_end (extreme_of (across c.args.side) (net_columns d t pin.net)) n) column in
    let after = map (own_pin i) c.in-Some.after.now in
    record {
      of_nets = of.1;
      over = omega (
        arith,
        one,
        ap (λ (l : List InstancePin). sum (map (ends_net d t c.args.side) (map (own_pin i) l))) rest,
        sum-cons (ends_net d t c.args.side (own_pin i pin)) (map (ends_net d t c.args.side) after),
        c.loop-pin.invariant.over,
      );
      under = omega (
        arith,
        one_alone,
        ap (λ (l : List InstancePin). sum (map (ends_net_alone d t (across c.args.side)) (map (own_pin i) l))) rest,
        sum-cons (ends_net_alone d t (across c.args.side) (own_pin i pin)) (map (ends_net_alone d t (across c.args.side)) after),
        c.loop-pin.invariant.under,
      );
      few = omega (arith, c.loop-pin.invariant.few, c.ends-more.ensures.few, ap length rest);
      few_under = omega (arith, c.loop-pin.invariant.few_under, c.ends-more.ensures.few_alone, ap length rest);
    }
