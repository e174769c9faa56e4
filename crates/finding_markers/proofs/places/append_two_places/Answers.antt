use Rattle.finding_markers.proofs.places.append_two_places.Goals as goal
use Rattle.std.specs.Option.{option_to_list}
use Rattle.shelf_io.proofs.WritesLaws.{writes-both, writes-stopped}
use Rattle.finding_markers.specs.Markers.{boxes_text}
use Rattle.finding_markers.proofs.BoxLaws.{boxes-both}

pub returns-in_err-append_place : goal.returns-in_err-append_place
returns-in_err-append_place g c =
    rw (boxes-both (option_to_list c.args.first) (option_to_list c.args.second))
    (writes-stopped c.from_residual.result (boxes_text (option_to_list c.args.second)) c.from_residual.ensures.0 c.in_err-append_place.ensures)

pub returns : goal.returns
returns g c =
    rw (boxes-both (option_to_list c.args.first) (option_to_list c.args.second))
    (writes-both c.append_place-2.result (g.met.K.Sink.place_then _ _ _) (g.met.K.Sink.same_then _ _ _) c.in_ok-append_place.ensures c.append_place-2.ensures)
