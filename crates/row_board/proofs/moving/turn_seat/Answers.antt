use Rattle.std.proofs.Common.{ap, ◌∙◌}
use Rattle.std.specs.List.{slice_get}
use Rattle.std.specs.Option.{option_map}
use Rattle.std.specs.Prelude.{not}
use Rattle.row_board.specs.Standings.{put_in}
use Rattle.row_model.specs.Changes.{mirrored}
use Rattle.row_model.specs.declared.rows.Seat.{Seat}
use Rattle.row_board.proofs.ReachLaws.{turned-facts, turned-unmoved}
use Rattle.row_board.proofs.moving.turn_seat.Goals as goal

pub returns : goal.returns
returns c =
    let facts = turned-facts c.args.costs.now.design c.args.rows.now c.put.new.rows c.args.costs.now.standings c.args.a c.standing-one.result c.design-design.ensures.good c.requires.seated.placed
    c.requires.seated.entered c.requires.a c.standing-one.ensures
    (λ r. c.put.ensures r
    ∙ ap (λ (s : Seat). option_map (put_in c.standing-one.result.row c.standing-one.result.place (record { instance = s.instance; mirror = not s.mirror }) r) (slice_get c.args.rows.now r)) c.seat-seat.ensures) in
    record {
      mirrored = facts.mirrored;
      placed = facts.placed;
      unmoved = turned-unmoved c.args.costs.now.design c.put.new.rows c.args.costs.now.standings (mirrored c.args.a c.args.rows.now) c.standing-one.result c.moved_seats.result facts c.moved_seats.ensures.row
          c.moved_seats.ensures.from c.moved_seats.ensures.to;
    }
