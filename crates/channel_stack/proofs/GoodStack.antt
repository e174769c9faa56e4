use Rattle.std.proofs.Common.{List, refl, sym, subst}
use Rattle.geom_core.specs.declared.layout.Layout.{Layout}
use Rattle.tech_rules.specs.Rules.{RuleValues, ValidRules}
use Rattle.design_model.specs.Good.{Good}
use Rattle.design_model.specs.Netlist.{Netlist, IsNetlist}
use Rattle.design_model.specs.Room.{HasRoom}
use Rattle.channel_model.specs.declared.wiring.Wiring.{Wiring}
use Rattle.row_model.specs.Rows.{ArePlaced}
use Rattle.row_model.specs.declared.rows.Seat.{Seat}
use Rattle.feed_cells.specs.Fed.{Fed, IsFed, fed_rows, cells_in}
use Rattle.feed_cells.proofs.RowFeedLaws.{fed-from}
use Rattle.layout_laws.proofs.Labels.{IsLabelled}
use Rattle.layout_laws.proofs.Plans.{plan_drawn}
use Rattle.layout_laws.proofs.LabelLaws.{labelled-nets, labelled-spaced, labelled-wide}
use Rattle.layout_laws.proofs.PlanLaws.{plan-apart, plan-wide}
use Rattle.layout_laws.proofs.ThreadLaws.{plan-chained}
use Rattle.channel_stack.proofs.Planned.{net_at, plan_of}
use Rattle.channel_stack.specs.Routed.{AreWired}
use Rattle.channel_stack.proofs.LayoutDraws.{stack-draws}
use Rattle.channel_stack.proofs.LayoutRows.{stack-in_rows}
use Rattle.channel_stack.proofs.LayoutShows.{stack-cells, stack-shows}
use Rattle.channel_stack.proofs.PlanThreads.{stack-threaded}
use Rattle.channel_stack.proofs.StackPlan.{stack-plan}
use Rattle.channel_stack.proofs.LayoutShapes.{stack_layout}

-- the layout of rows whose channels are wired is good
rows-good : (r : RuleValues) → ValidRules r → (d : Netlist) → IsNetlist d → HasRoom r d
    → (rows : List (List Seat)) → ArePlaced d rows → (ws : List Wiring) → AreWired d (fed_rows d rows) ws
    → Good r d (stack_layout r d (fed_rows d rows) ws)
rows-good r valid d is room rows placed ws wired =
    let fed : Fed = fed_rows d rows in
    let from : IsFed d fed = fed-from d rows fed placed refl in
    let l : Layout = stack_layout r d fed ws in
    let plan = plan_of r d fed ws in
    let planned = stack-plan r valid d is room rows placed ws wired in
    let threaded = stack-threaded r valid d is rows placed ws wired.each l (stack-draws r valid d is room fed from ws wired.each) in
    let labelled : IsLabelled r d l (plan_drawn r plan) (net_at d) = record {
      pins = stack-shows r valid d is room fed from ws wired.each;
      wide = plan-wide r valid plan planned;
      apart = plan-apart r valid plan planned;
      chained = plan-chained r valid d l plan planned threaded;
    } in
    record {
      cells = stack-cells r valid d is room fed from ws wired.each;
      rows = stack-in_rows r valid d is room fed from ws wired.each;
      wide = labelled-wide r d l (plan_drawn r plan) (net_at d) labelled;
      spaced = labelled-spaced r d l (plan_drawn r plan) (net_at d) valid labelled;
      nets = labelled-nets r d l (plan_drawn r plan) (net_at d) valid labelled;
    }

-- the layout of rows with feeds whose channels are wired, by whatever router, is good
pub stack-good : (r : RuleValues) → ValidRules r → (d : Netlist) → IsNetlist d → HasRoom r d
    → (fed : Fed) → IsFed d fed → (ws : List Wiring) → AreWired d fed ws → Good r d (stack_layout r d fed ws)
stack-good r valid d is room fed from ws wired =
    let rows = cells_in fed.rows in
    subst (λ (f : Fed). Good r d (stack_layout r d f ws)) (sym from.is)
    (rows-good r valid d is room rows from.placed ws (subst (λ (f : Fed). AreWired d f ws) from.is wired))
