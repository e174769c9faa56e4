use Rattle.std.proofs.Common.{◌≡◌, ◌<◌, ◌∙◌, ◌+◌, ◌^◌, List, ap, arith, length, sym}
use Rattle.greedy_column.specs.declared.column.Made.{Made}
use Rattle.greedy_column.specs.declared.column.Track.{Track}
use Rattle.greedy_column.specs.Replay.{with_made}
use Rattle.greedy_column.specs.Tracks.{ids, line_of}
use Rattle.greedy_column.proofs.IdLaws.{ids-hold}
use Rattle.greedy_column.proofs.TableLaws.{length-ids}
use Rattle.greedy_column.proofs.PlacedLaws.{AreTracks-with_made}
use Rattle.greedy_column.proofs.PinSpanLaws.{spans_of_pins-on}
use Rattle.greedy_column.proofs.stepping.enter_pins.Goals as goal

pub new-tracks-requires : goal.new-tracks-requires
new-tracks-requires c =
    let made = c.args.entries.now.made in
    let all : c.in_ok-list.list.items ≡ with_made c.args.before made =
    c.in_ok-list.ensures.made ∙ (λ i. with_made (c.into_list.ensures i) (c.items.ensures i)) in
    let few : length c.in_ok-list.list.items + 2 < 2 ^ 32 =
    omega (
      arith,
      c.in_ok-list.ensures.long,
      ap (λ (l : List Track). length l) c.into_list.ensures,
      ap (λ (l : List Made). length l) c.items.ensures,
      c.requires.few,
      c.requires.made,
    ) in
    AreTracks-with_made c.requires.placed.0 c.args.before made c.in_ok-list.list.items c.requires.placed.1.0 c.requires.placed.1.1 all few

pub returns-clause-spans : goal.returns-clause-spans
returns-clause-spans c =
    let top = c.args.entries.now.top in
    let bottom = c.args.entries.now.bottom in
    let now = c.hold-top_line.new.self in
    let last : ids now ≡ ids c.hold-bottom_line.new.self = ap ids c.hold-top_line.ensures.held ∙ ids-hold top c.args.top c.hold-bottom_line.new.self in
    let first : ids c.hold-bottom_line.new.self ≡ ids c.new-tracks.result = ap ids c.hold-bottom_line.ensures.held ∙ ids-hold bottom c.args.bottom c.new-tracks.result in
    c.in_ok-spans.ensures
    ∙ spans_of_pins-on (ids now) c.args.straight c.args.top c.args.bottom top bottom c.hold-top_line.result c.hold-bottom_line.result c.upper_edge.result
    (c.hold-top_line.ensures.line ∙ ap (λ order. line_of order top) (sym last))
    (c.hold-bottom_line.ensures.line ∙ ap (λ order. line_of order bottom) (sym (last ∙ first)))
    (omega (arith, c.upper_edge.ensures, length-ids now))
