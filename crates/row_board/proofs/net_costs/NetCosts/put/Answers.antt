use Rattle.std.proofs.Common.{◌≡◌, ◌<◌, Some, length, refl, ap, ◌∙◌, arith, slice_get}
use Rattle.std.proofs.lemmas.List.{length-set}
use Rattle.std.proofs.lemmas.Option.{slice_get_read}
use Rattle.row_board.specs.Spot.{Spot}
use Rattle.row_board.proofs.PinPlaceLaws.{columns-put, rows-put}
use Rattle.row_board.proofs.net_costs.NetCosts.put.Goals as goal

pub invariant_of-self : goal.invariant_of-self
invariant_of-self c =
    let i = c.self.inside in
    let within : c.args.instance < length i.standings.items = omega (arith, c.if-n-len.true, c.len.ensures) in
    let was : slice_get i.standings.items c.args.instance ≡ Some c.index-was.result.now =
    slice_get_read i.standings.items (length i.standings.items) c.args.instance c.index-was.result.now refl within c.index-was.ensures in
    record {
      good = c.self.invariant.good;
      weights = c.self.invariant.weights;
      count = length-set i.standings.items c.args.instance c.args.standing ∙ c.self.invariant.count;
      columns = columns-put i.nets i.standings.items c.args.instance c.args.standing c.of-pins.result.now i.columns c.put_columns.new.columns within c.of-pins.ensures.placed
          c.self.invariant.columns c.put_columns.ensures.most c.put_columns.ensures.lists;
      rows = rows-put i.nets i.standings.items c.args.instance c.args.standing c.index-was.result.now c.was.inside.row c.standing.inside.row c.of-pins.result.now i.rows
          c.put_rows.new.rows was (ap (λ (s : Spot). s.row) c.was.view_is) (ap (λ (s : Spot). s.row) c.standing.view_is) c.of-pins.ensures.placed c.self.invariant.rows
          c.put_rows.ensures.most c.put_rows.ensures.lists;
    }
