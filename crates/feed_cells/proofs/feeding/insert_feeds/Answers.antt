-- The rows of a design are short and its nets are few, so that each part can be counted, and the parts are those of the definition.
use Rattle.std.proofs.Common.{rules, ◌≡◌, arith, length, map, refl, ap, ◌∙◌}
use Rattle.row_model.proofs.PlacedLaws.{placed-short}
use Rattle.feed_cells.specs.Crossings.{all_nets}
use Rattle.feed_cells.specs.Fed.{Fed, cells_in, fed_from, fed_rows, heights_of}
use Rattle.feed_cells.specs.Placement.{net_place, placement_of}
use Rattle.feed_cells.specs.RowFeeds.{AreFeeds}
use Rattle.feed_cells.proofs.RowFeedLaws.{fed-from, counts-nets, nets-fed}
use Rattle.feed_cells.proofs.FedLaws.{cells-fed}
use Rattle.feed_cells.proofs.FedWidths.{fed-narrow}
use Rattle.feed_cells.proofs.feeding.insert_feeds.Goals as goal

pub fed_rows-requires-clause-short : goal.fed_rows-requires-clause-short
fed_rows-requires-clause-short c = rw (c.items-rows.ensures ∙ c.rows.view_is) (placed-short c.args.design.now c.args.rows.now (search rules) c.requires.placed)

pub returns-clause-is : goal.returns-clause-is
unfolding fed_rows placement_of
returns-clause-is c =
    let d = c.args.design.now in
    let rows = c.items-rows.result.now in
    let same : rows ≡ c.args.rows.now = c.items-rows.ensures ∙ c.rows.view_is in
    let nets : c.items-nets.result.now ≡ map (net_place d rows) (all_nets d) = grind arith in
    let feeds : AreFeeds d rows c.items-nets.result.now c.in_ok-feeds.feeds = record { nets = nets; each = λ row within. grind (arith, nets-fed d rows row) } in
    let fed : c.as_slice.result.now ≡ fed_from d rows 0 rows = c.as_slice.ensures.value ∙ c.in_ok-fed.ensures feeds in
    let width = c.greatest_width-width.ensures (rw fed (fed-narrow d rows (search rules) (rw same (placed-short d c.args.rows.now (search rules) c.requires.placed)))) in
    let heights : c.in_ok-heights.heights.items ≡ heights_of d rows = c.in_ok-heights.ensures in
    grind (arith, fed, heights, width, nets, counts-nets d rows)

pub returns-clause-fed : goal.returns-clause-fed
returns-clause-fed c = fed-from c.args.design.now c.args.rows.now _ c.requires.placed (returns-clause-is c)

pub returns-clause-cells : goal.returns-clause-cells
returns-clause-cells c = ap (λ (f : Fed). cells_in f.rows) (returns-clause-is c) ∙ cells-fed c.args.design.now c.args.rows.now
