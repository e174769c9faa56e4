use Rattle.cif_writer.proofs.layout.write_main.Goals as goal
use Rattle.std.proofs.Common.{rules, ◌≡◌, ap, is_some, map, refl, true}
use Rattle.shelf_io.proofs.SoFar.{so_far-begun, so_far-done, so_far-failed, so_far-more}
use Rattle.cif_writer.proofs.LayoutLines.{main-channel, main-level, main-top, no-height, no-risers, no-row}

pub loop-one-init : goal.loop-one-init
loop-one-init g c =
    let laid = c.args.routed.now.laid.now in
    let tall : c.items-tall.result.now ≡ c.args.routed.now.symbols.now.feed_heights = search rules in
    let bases : c.items-edges.result.now ≡ laid.channel_base = search rules in
    let cells : c.items-rows.result.now ≡ laid.cells = search rules in
    let heights : c.items-heights.result.now ≡ laid.row_height = search rules in
    let risers : c.items-risers.result.now ≡ laid.risers = search rules in
    record {
      so_far = rw (tall, bases, cells, heights, risers) (so_far-begun _ _ _ _ (g.met.K.Sink.place_here c.args.out.now) (g.met.K.Sink.same_here c.args.out.now));
      in_reach = rw (bases, cells, risers) c.requires.reach;
      goes = g.met.V.Watch.goes_here c.args.watch.now;
    }

pub returns-in_err-write_wires-clause-wrote : goal.returns-in_err-write_wires-clause-wrote
returns-in_err-write_wires-clause-wrote g c =
    let channels = ap (map g.W.HasWiring.wiring_of) c.in-Some.ensures.cases.0 in
    let first = main-channel (is_some c.args.routed.now.labels) c.args.routed.now.rules.now c.args.routed.now.design.now c.items-tall.result.now c.loop-one.text.last channels
    c.in-Some-split_first.ensures.cases.0 c.loop-one.heights.now c.loop-one.rows.now c.loop-one.risers.now in
    so_far-failed c.from_residual.result _ (g.met.K.Sink.place_then _ _ _) (g.met.K.Sink.same_then _ _ _) c.from_residual.ensures.0
    c.loop-one.invariant.so_far first.1 (rw c.wiring.ensures at c.in_err-write_wires.ensures.wrote)

pub returns-in_default-split_first-2-clause-wrote : goal.returns-in_default-split_first-2-clause-wrote
returns-in_default-split_first-2-clause-wrote g c =
    let channels = ap (map g.W.HasWiring.wiring_of) c.in-Some.ensures.cases.0 in
    let top = main-top (is_some c.args.routed.now.labels) c.args.routed.now.rules.now c.args.routed.now.design.now c.items-tall.result.now c.loop-one.text.last channels
    c.in-Some-split_first.ensures.cases.0 c.loop-one.heights.now c.loop-one.rows.now c.loop-one.risers.now
    (no-row (is_some c.args.routed.now.labels) c.args.routed.now.rules.now c.args.routed.now.design.now c.items-tall.result.now c.loop-one.heights.now c.loop-one.rows.now c.loop-one.risers.now c.in_default-split_first-2.ensures.cases) in
    so_far-done _ refl (so_far-more (g.met.K.Sink.place_then _ _ _) (g.met.K.Sink.same_then _ _ _ true) c.loop-one.invariant.so_far top (rw c.wiring.ensures at c.in_ok-write_wires.ensures.wrote))

pub returns-in_default-split_first-3-clause-wrote : goal.returns-in_default-split_first-3-clause-wrote
returns-in_default-split_first-3-clause-wrote g c =
    let channels = ap (map g.W.HasWiring.wiring_of) c.in-Some.ensures.cases.0 in
    let top = main-top (is_some c.args.routed.now.labels) c.args.routed.now.rules.now c.args.routed.now.design.now c.items-tall.result.now c.loop-one.text.last channels
    c.in-Some-split_first.ensures.cases.0 c.loop-one.heights.now c.loop-one.rows.now c.loop-one.risers.now
    (no-height (is_some c.args.routed.now.labels) c.args.routed.now.rules.now c.args.routed.now.design.now c.items-tall.result.now c.loop-one.heights.now c.loop-one.rows.now c.loop-one.risers.now c.in_default-split_first-3.ensures.cases) in
    so_far-done _ refl (so_far-more (g.met.K.Sink.place_then _ _ _) (g.met.K.Sink.same_then _ _ _ true) c.loop-one.invariant.so_far top (rw c.wiring.ensures at c.in_ok-write_wires.ensures.wrote))

pub returns-in_default-split_first-4-clause-wrote : goal.returns-in_default-split_first-4-clause-wrote
returns-in_default-split_first-4-clause-wrote g c =
    let channels = ap (map g.W.HasWiring.wiring_of) c.in-Some.ensures.cases.0 in
    let top = main-top (is_some c.args.routed.now.labels) c.args.routed.now.rules.now c.args.routed.now.design.now c.items-tall.result.now c.loop-one.text.last channels
    c.in-Some-split_first.ensures.cases.0 c.loop-one.heights.now c.loop-one.rows.now c.loop-one.risers.now
    (no-risers (is_some c.args.routed.now.labels) c.args.routed.now.rules.now c.args.routed.now.design.now c.items-tall.result.now c.loop-one.heights.now c.loop-one.rows.now c.loop-one.risers.now c.in_default-split_first-4.ensures.cases) in
    so_far-done _ refl (so_far-more (g.met.K.Sink.place_then _ _ _) (g.met.K.Sink.same_then _ _ _ true) c.loop-one.invariant.so_far top (rw c.wiring.ensures at c.in_ok-write_wires.ensures.wrote))

pub returns-in_err-write_level-clause-wrote : goal.returns-in_err-write_level-clause-wrote
returns-in_err-write_level-clause-wrote g c =
    let channels = ap (map g.W.HasWiring.wiring_of) c.in-Some.ensures.cases.0 in
    let parts = main-level (is_some c.args.routed.now.labels) c.args.routed.now.rules.now c.args.routed.now.design.now c.items-tall.result.now c.loop-one.text.last channels
    c.in-Some-split_first.ensures.cases.0 c.in-Some-split_first-2.ensures.cases.0 c.in-Some-split_first-3.ensures.cases.0 c.in-Some-split_first-4.ensures.cases.0 in
    let channel = so_far-more (g.met.K.Sink.place_then _ _ _) (g.met.K.Sink.same_then _ _ _ true) c.loop-one.invariant.so_far parts (rw c.wiring.ensures at c.in_ok-write_wires.ensures.wrote) in
    let layer = rw c.wiring.ensures at c.in_ok-write_wires.ensures.layer in
    so_far-failed c.from_residual-in_err-write_level.result _ (g.met.K.Sink.place_then _ _ _) (g.met.K.Sink.same_then _ _ _) c.from_residual-in_err-write_level.ensures.0
    channel refl (rw (c.items.ensures, c.items-in-Some.ensures, layer) at c.in_err-write_level.ensures.wrote)

pub loop-one-preserved : goal.loop-one-preserved
loop-one-preserved g c =
    let channels = ap (map g.W.HasWiring.wiring_of) c.in-Some.ensures.cases.0 in
    let parts = main-level (is_some c.args.routed.now.labels) c.args.routed.now.rules.now c.args.routed.now.design.now c.items-tall.result.now c.loop-one.text.last channels
    c.in-Some-split_first.ensures.cases.0 c.in-Some-split_first-2.ensures.cases.0 c.in-Some-split_first-3.ensures.cases.0 c.in-Some-split_first-4.ensures.cases.0 in
    let channel = so_far-more (g.met.K.Sink.place_then _ _ _) (g.met.K.Sink.same_then _ _ _ true) c.loop-one.invariant.so_far parts (rw c.wiring.ensures at c.in_ok-write_wires.ensures.wrote) in
    let layer = rw c.wiring.ensures at c.in_ok-write_wires.ensures.layer in
    let level = rw (c.items.ensures, c.items-in-Some.ensures, layer) at c.in_ok-write_level.ensures.wrote in
    let behind = rw (c.items.ensures, c.items-in-Some.ensures, layer) at c.in_ok-write_level.ensures.layer in
    let within = rw (channels, c.in-Some-split_first.ensures.cases.0, c.in-Some-split_first-2.ensures.cases.0, c.in-Some-split_first-4.ensures.cases.0) at c.loop-one.invariant.in_reach in
    record {
      so_far = rw behind (so_far-more (g.met.K.Sink.place_then _ _ _) (g.met.K.Sink.same_then _ _ _ true) channel refl level);
      in_reach = record { on_grid = within.on_grid.1; wires = within.wires.1; places = within.places.1; risers = within.risers.1; shapes = within.shapes };
      goes = g.met.V.Watch.goes_then _ _ _ c.loop-one.invariant.goes c.told.ensures;
    }
