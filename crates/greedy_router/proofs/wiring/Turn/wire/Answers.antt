use Rattle.std.proofs.Common.{◌≡◌, ◌++◌, ℕ, List, length, get_or, refl, set, subst, arith, ap, ◌∙◌, sym}
use Rattle.std.proofs.lemmas.List.{length-set}
use Rattle.channel_model.specs.Pins.{Pins}
use Rattle.channel_model.specs.declared.wiring.Segment.{Segment}
use Rattle.channel_model.specs.declared.wiring.Via.{Via}
use Rattle.greedy_column.specs.declared.column.Column.{Column}
use Rattle.greedy_column.specs.Replay.{top_pin, bottom_pin, entered, after}
use Rattle.greedy_column.specs.Verticals.{pin_verticals}
use Rattle.greedy_router.specs.SweepWiring.{since_after}
use Rattle.greedy_router.specs.Turns.{TellsNets, TellsSince, left_by, since_entered}
use Rattle.greedy_router.proofs.TurnLaws.{freed_by-long, moved_by-long, since_moved-long, since_entered-long}
use Rattle.greedy_router.proofs.ByTableLaws.{nets-entered, since-noted, left-told, left-since, held-left, joins-alike, moves-alike}
use Rattle.greedy_router.proofs.TellLaws.{column_segments-told, vias-told}
use Rattle.greedy_router.proofs.wiring.Turn.wire.Goals as goal

left_by-long : (done : Column) (table : List ℕ) → length (left_by done table) ≡ length table
left_by-long done table = moved_by-long done.moves _ ∙ freed_by-long done.ended table

pub draw-requires-clause-all : goal.draw-requires-clause-all
draw-requires-clause-all c =
    let all = c.requires.all in
    let done : Column = c.args.self.now.done.now in
    let entered = c.enter_pins.ensures in
    let left = c.leave.ensures in
    let nets : length c.leave.new.self.nets.items ≡ length c.args.by_id.now.nets.items =
    ap (λ (l : List ℕ). length l) (left.nets ∙ entered.nets) ∙ length-set _ done.top c.pin_in-top.result ∙ length-set _ done.bottom c.pin_in-bottom.result in
    let laters : length c.leave.new.self.laters.items ≡ length c.args.by_id.now.laters.items =
    ap (λ (l : List ℕ). length l) left.laters ∙ left_by-long done _ ∙ ap (λ (l : List ℕ). length l) entered.laters
    ∙ length-set _ done.top c.pin_in-top.result ∙ length-set _ done.bottom c.pin_in-bottom.result in
    let since : length c.leave.new.self.since.items ≡ length c.args.by_id.now.since.items =
    ap (λ (l : List ℕ). length l) (left.since ∙ entered.since)
    ∙ since_entered-long c.args.self.now.column done.top (set c.args.by_id.now.nets.items done.bottom c.pin_in-bottom.result)
    (since_entered c.args.self.now.column c.args.by_id.now.nets.items done.bottom c.args.by_id.now.since.items)
    ∙ since_entered-long c.args.self.now.column done.bottom c.args.by_id.now.nets.items c.args.by_id.now.since.items in
    record {
      within = λ id member. let less = all.within id member in omega (arith, less, since);
      nets = nets ∙ all.nets ∙ sym since;
      laters = laters ∙ all.laters ∙ sym since;
      lefts = ap (λ m. length m.rounds.items) (left.lefts ∙ entered.lefts) ∙ all.lefts ∙ sym since;
      ends = ap (λ m. length m.rounds.items) (left.ends ∙ entered.ends) ∙ all.ends ∙ sym since;
    }

pub returns-clause-all : goal.returns-clause-all
returns-clause-all c =
    let all = c.in_ok-draw.ensures.all in
    let done : Column = c.args.self.now.done.now in
    let passed = c.pass.ensures in
    let since : length c.pass.new.self.since.items ≡ length c.draw.new.by_id.since.items =
    ap (λ (l : List ℕ). length l) passed.since ∙ since_moved-long c.args.self.now.column done.moves _ in
    record {
      within = λ id member. let less = all.within id member in omega (arith, less, since);
      nets = ap (λ (l : List ℕ). length l) passed.nets ∙ left_by-long done _ ∙ all.nets ∙ sym since;
      laters = ap (λ (l : List ℕ). length l) passed.laters ∙ all.laters ∙ sym since;
      lefts = ap (λ m. length m.rounds.items) passed.lefts ∙ all.lefts ∙ sym since;
      ends = ap (λ m. length m.rounds.items) passed.ends ∙ all.ends ∙ sym since;
    }

pub returns-clause-told : goal.returns-clause-told
returns-clause-told c before since turn told =
    let order : List ℕ = c.args.self.now.order.now in
    let pins : Pins = c.args.self.now.channel.now in
    let column : ℕ = c.args.self.now.column in
    let done : Column = c.args.self.now.done.now in
    let all = c.requires.all in
    let top : c.pin_in-top.result ≡ top_pin pins column =
    c.pin_in-top.ensures ∙ ap (λ (l : List ℕ). get_or l column 0) c.items.ensures ∙ ap (λ (p : Pins). get_or p.top column 0) c.channel.view_is in
    let bottom : c.pin_in-bottom.result ≡ bottom_pin pins column =
    c.pin_in-bottom.ensures ∙ ap (λ (l : List ℕ). get_or l column 0) c.items-2.ensures ∙ ap (λ (p : Pins). get_or p.bottom column 0) c.channel.view_is in
    let nets : TellsNets order (entered pins column done before) c.draw.new.by_id.nets.items =
    nets-entered order pins column before done turn c.args.by_id.now.nets.items c.draw.new.by_id.nets.items c.pin_in-top.result c.pin_in-bottom.result
    (λ id member. let less = all.within id member in omega (arith, less, all.nets)) told.nets top bottom
    (c.in_ok-draw.ensures.nets ∙ c.leave.ensures.nets ∙ c.enter_pins.ensures.nets) in
    let laters : TellsNets order (entered pins column done before) c.enter_pins.new.self.laters.items =
    nets-entered order pins column before done turn c.args.by_id.now.laters.items c.enter_pins.new.self.laters.items c.pin_in-top.result c.pin_in-bottom.result
    (λ id member. let less = all.within id member in omega (arith, less, all.laters)) told.laters top bottom c.enter_pins.ensures.laters in
    let began : TellsSince order (entered pins column done before) (since_after column before since) c.draw.new.by_id.since.items =
    since-noted order pins column before done turn c.args.by_id.now.nets.items c.args.by_id.now.since.items c.draw.new.by_id.since.items c.pin_in-bottom.result since
    (λ id member. let less = all.within id member in omega (arith, less, all.nets)) all.within told.nets told.since bottom
    (c.in_ok-draw.ensures.since ∙ c.leave.ensures.since ∙ c.enter_pins.ensures.since) in
    let drawn = c.in_ok-draw.ensures.all in
    let long : length c.enter_pins.new.self.laters.items ≡ length c.args.by_id.now.laters.items =
    ap (λ (l : List ℕ). length l) c.enter_pins.ensures.laters ∙ length-set _ done.top c.pin_in-top.result ∙ length-set _ done.bottom c.pin_in-bottom.result in
    record {
      nets = subst (λ t. TellsNets order (after pins column done before) t) (sym c.pass.ensures.nets)
          (left-told order pins column before done turn c.draw.new.by_id.nets.items
          (λ id member. let less = drawn.within id member in omega (arith, less, drawn.nets)) nets);
      laters = subst (λ t. TellsNets order (after pins column done before) t) (sym (c.pass.ensures.laters ∙ c.in_ok-draw.ensures.laters ∙ c.leave.ensures.laters))
          (left-told order pins column before done turn c.enter_pins.new.self.laters.items
          (λ id member. let less = all.within id member in omega (arith, less, long, all.laters)) laters);
      since = subst (λ t. TellsSince order (after pins column done before) (since_after column before since) t) (sym c.pass.ensures.since)
          (left-since order pins column before done turn c.draw.new.by_id.since.items since drawn.within began);
    }

pub returns-clause-segments : goal.returns-clause-segments
returns-clause-segments c before since turn told =
    let order : List ℕ = c.args.self.now.order.now in
    let pins : Pins = c.args.self.now.channel.now in
    let column : ℕ = c.args.self.now.column in
    let done : Column = c.args.self.now.done.now in
    let all = c.requires.all in
    let top : c.pin_in-top.result ≡ top_pin pins column =
    c.pin_in-top.ensures ∙ ap (λ (l : List ℕ). get_or l column 0) c.items.ensures ∙ ap (λ (p : Pins). get_or p.top column 0) c.channel.view_is in
    let bottom : c.pin_in-bottom.result ≡ bottom_pin pins column =
    c.pin_in-bottom.ensures ∙ ap (λ (l : List ℕ). get_or l column 0) c.items-2.ensures ∙ ap (λ (p : Pins). get_or p.bottom column 0) c.channel.view_is in
    let nets : TellsNets order (entered pins column done before) c.leave.new.self.nets.items =
    nets-entered order pins column before done turn c.args.by_id.now.nets.items c.leave.new.self.nets.items c.pin_in-top.result c.pin_in-bottom.result
    (λ id member. let less = all.within id member in omega (arith, less, all.nets)) told.nets top bottom
    (c.leave.ensures.nets ∙ c.enter_pins.ensures.nets) in
    let began : TellsSince order (entered pins column done before) (since_after column before since) c.leave.new.self.since.items =
    since-noted order pins column before done turn c.args.by_id.now.nets.items c.args.by_id.now.since.items c.leave.new.self.since.items c.pin_in-bottom.result since
    (λ id member. let less = all.within id member in omega (arith, less, all.nets)) all.within told.nets told.since bottom
    (c.leave.ensures.since ∙ c.enter_pins.ensures.since) in
    c.in_ok-draw.ensures.segments
    ∙ ap (λ (l : List Segment). c.args.wires.now.segments.items ++ l)
    (column_segments-told order pins column before (entered pins column done before) c.leave.new.self.nets.items c.leave.new.self.since.items since done nets began
    (held-left order pins column before done turn) (joins-alike order pins column before done turn c.leave.new.self.nets.items nets)
    (moves-alike order pins column before done turn c.leave.new.self.nets.items nets))

pub returns-clause-vias : goal.returns-clause-vias
returns-clause-vias c before since turn told =
    let order : List ℕ = c.args.self.now.order.now in
    let pins : Pins = c.args.self.now.channel.now in
    let column : ℕ = c.args.self.now.column in
    let done : Column = c.args.self.now.done.now in
    let all = c.requires.all in
    let top : c.pin_in-top.result ≡ top_pin pins column =
    c.pin_in-top.ensures ∙ ap (λ (l : List ℕ). get_or l column 0) c.items.ensures ∙ ap (λ (p : Pins). get_or p.top column 0) c.channel.view_is in
    let bottom : c.pin_in-bottom.result ≡ bottom_pin pins column =
    c.pin_in-bottom.ensures ∙ ap (λ (l : List ℕ). get_or l column 0) c.items-2.ensures ∙ ap (λ (p : Pins). get_or p.bottom column 0) c.channel.view_is in
    let nets : TellsNets order (entered pins column done before) c.leave.new.self.nets.items =
    nets-entered order pins column before done turn c.args.by_id.now.nets.items c.leave.new.self.nets.items c.pin_in-top.result c.pin_in-bottom.result
    (λ id member. let less = all.within id member in omega (arith, less, all.nets)) told.nets top bottom
    (c.leave.ensures.nets ∙ c.enter_pins.ensures.nets) in
    let laters : TellsNets order (entered pins column done before) c.enter_pins.new.self.laters.items =
    nets-entered order pins column before done turn c.args.by_id.now.laters.items c.enter_pins.new.self.laters.items c.pin_in-top.result c.pin_in-bottom.result
    (λ id member. let less = all.within id member in omega (arith, less, all.laters)) told.laters top bottom c.enter_pins.ensures.laters in
    let long : length c.enter_pins.new.self.laters.items ≡ length c.args.by_id.now.laters.items =
    ap (λ (l : List ℕ). length l) c.enter_pins.ensures.laters ∙ length-set _ done.top c.pin_in-top.result ∙ length-set _ done.bottom c.pin_in-bottom.result in
    let later : TellsNets order (after pins column done before) c.leave.new.self.laters.items =
    subst (λ t. TellsNets order (after pins column done before) t) (sym c.leave.ensures.laters)
    (left-told order pins column before done turn c.enter_pins.new.self.laters.items
    (λ id member. let less = all.within id member in omega (arith, less, long, all.laters)) laters) in
    c.in_ok-draw.ensures.vias
    ∙ ap (λ (l : List Via). c.args.wires.now.vias.items ++ l)
    (vias-told order column (entered pins column done before) (after pins column done before) c.leave.new.self.nets.items c.leave.new.self.laters.items _
    (pin_verticals pins column done) done nets later refl)
