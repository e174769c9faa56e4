use Rattle.std.proofs.Common.{ap, subst, sym, ◌∙◌}
use Rattle.design_model.specs.Netlist.{Netlist}
use Rattle.feed_cells.specs.Placement.{placement_of}
use Rattle.port_rows.specs.PortRows.{HaveEdges}
use Rattle.command_jobs.specs.Rows.{rows_for}
use Rattle.command_jobs.specs.Tries.{try_of}
use Rattle.command_jobs.proofs.TryLaws.{fed-rows}
use Rattle.command_jobs.proofs.placing.placed_as.Goals as goal

pub returns-clause-placed : goal.returns-clause-placed
returns-clause-placed g c =
    let job = try_of c.args.rules.now c.args.designs.now c.args.wanted.now c.args.number in
    record {
      rows = c.in_ok-count.ensures.is ∙ ap (λ (d : Netlist). rows_for c.args.rules.now d c.args.wanted.now.rows c.args.number) c.placed.ensures;
      seed = c.seed_at.ensures;
      cost = c.in_ok-rows.ensures.cost;
      fed = fed-rows job _ c.in_ok-fed.fed c.in_ok-rows.ensures.are c.in_ok-fed.ensures.is;
      feeds = c.in_ok-fed.ensures.fed;
      placement = c.in_ok-placement.ensures ∙ ap (placement_of c.args.designs.now.drawn.design) (sym c.in_ok-fed.ensures.cells);
      edges = subst (HaveEdges c.args.designs.now.drawn) c.in_ok-rows.ensures.are c.in_ok-rows.ensures.edges;
    }
