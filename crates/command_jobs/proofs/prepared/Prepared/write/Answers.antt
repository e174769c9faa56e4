use Rattle.std.proofs.Common.{◌≡◌, ◌∙◌, ap, subst, sym, List, ℕ, Bool, OnErr, is_some}
use Rattle.channel_stack.specs.Routed.{IsRouted}
use Rattle.channel_stack.specs.Stack.{stack_of}
use Rattle.cif_writer.specs.LayoutText.{HoldsFront, placed_text}
use Rattle.feed_cells.specs.Fed.{Fed}
use Rattle.greedy_router.specs.declared.sweep.Routed.{Routed}
use Rattle.command_jobs.specs.PreparedView.{RoutedJob}
use Rattle.geom_core.specs.declared.layout.Layout.{Layout}
use Rattle.design_model.specs.Netlist.{Netlist}
use Rattle.channel_stack.specs.Layouts.{layout_of}
use Rattle.cif_text.specs.ReadsAs.{ReadsAs}
use Rattle.command_jobs.specs.Text.{job_text, wirings_of}
use Rattle.command_jobs.specs.Written.{IsPortedText}
use Rattle.command_jobs.proofs.prepared.Prepared.write.Goals as goal

pub write_layout_watched-requires-clause-wired : goal.write_layout_watched-requires-clause-wired
write_layout_watched-requires-clause-wired g c =
    let a = c.self.inside in
    subst (λ (l : List Routed). IsRouted a.rules a.designs.drawn.design a.fed (wirings_of l)) (sym c.as_slice.ensures.value) c.self.invariant.rows.routed

pub returns-clause-front : goal.returns-clause-front
unfolding job_text
returns-clause-front g c =
    let a = c.self.inside in
    let placed : Bool → Fed → List Routed → List ℕ = λ labels fed kept. placed_text labels a.rules a.designs.drawn.design fed (stack_of a.rules a.designs.drawn.design fed (wirings_of kept)) in
    let wished : is_some c.as_ref.result ≡ a.wanted.labels = c.as_ref.ensures.variant ∙ c.self.invariant.labels in
    let text : placed (is_some c.as_ref.result) a.fed c.as_slice.result.now ≡ job_text c.args.self.now.job c.args.self.now.kept =
    ap (placed (is_some c.as_ref.result) a.fed) c.as_slice.ensures.value
    ∙ ap (λ (labels : Bool). placed labels a.fed a.kept.items) wished
    ∙ ap (λ (fed : Fed). placed a.wanted.labels fed a.kept.items) c.self.invariant.rows.is
    ∙ ap (λ (p : RoutedJob). job_text p.job p.kept) c.self.view_is in
    subst (λ (l : List ℕ). OnErr c.write_layout_watched.result (HoldsFront l (g.S.Shelf.holds c.args.shelf.now c.args.out.now) (g.S.Shelf.holds c.write_layout_watched.new.shelf c.args.out.now)))
    text c.write_layout_watched.ensures.front

pub returns-clause-good : goal.returns-clause-good
unfolding job_text
returns-clause-good g c =
    let a = c.self.inside in
    let d : Netlist = a.designs.drawn.design in
    let laid : Layout = layout_of a.rules d (stack_of a.rules d a.fed (wirings_of a.kept.items)) in
    let wished : is_some c.as_ref.result ≡ a.wanted.labels = c.as_ref.ensures.variant ∙ c.self.invariant.labels in
    let placed : Bool → Fed → List ℕ = λ labels fed. placed_text labels a.rules d fed (stack_of a.rules d fed (wirings_of a.kept.items)) in
    let reads : ReadsAs (placed (is_some c.as_ref.result) a.fed) laid =
    subst (λ (kept : List Routed). ReadsAs (placed_text (is_some c.as_ref.result) a.rules d a.fed (stack_of a.rules d a.fed (wirings_of kept))) (layout_of a.rules d (stack_of a.rules d a.fed (wirings_of kept))))
    c.as_slice.ensures.value c.write_layout_watched.ensures.reads_as in
    let made : IsPortedText a.rules a.designs.drawn (placed (is_some c.as_ref.result) a.fed) =
    record { is = record { layout = laid; reads = reads; good = c.self.invariant.good }; edges = c.self.invariant.edges } in
    subst (λ (p : RoutedJob). IsPortedText p.job.rules p.job.drawn (job_text p.job p.kept)) c.self.view_is
    (subst (λ (l : List ℕ). IsPortedText a.rules a.designs.drawn l) (ap (λ (labels : Bool). placed labels a.fed) wished ∙ ap (placed a.wanted.labels) c.self.invariant.rows.is) made)
