use Rattle.finding_markers.proofs.items.append_items.Goals as goal
use Rattle.std.proofs.Common.{◌≡◌, ◌++◌, ◌∷◌, List, [], ap, true}
use Rattle.std.proofs.lemmas.List.{nil_from_length}
use Rattle.geom_core.specs.declared.layout.Layout.{Layout}
use Rattle.design_model.specs.Netlist.{Netlist}
use Rattle.layout_check.specs.declared.finding.Finding.{Finding}
use Rattle.finding_markers.specs.Markers.{item_text, items_text}
use Rattle.shelf_io.proofs.SoFar.{so_far-begun, so_far-done, so_far-failed, so_far-more}

-- the items of some findings are that of the first and those of the others
items-first : (d : Netlist) (l : Layout) (fs : List Finding) (f : Finding) (rest : List Finding) → fs ≡ f ∷ rest
    → items_text d l fs ≡ item_text d l f ++ items_text d l rest
unfolding items_text
items-first d l fs f rest is = ap (items_text d l) is

items-none : (d : Netlist) (l : Layout) (fs : List Finding) → fs ≡ [] → items_text d l fs ≡ []
unfolding items_text
items-none d l fs is = ap (items_text d l) is

pub loop-finding-init : goal.loop-finding-init
loop-finding-init g c = so_far-begun _ c.args.buffer.now _ _ (g.met.K.Sink.place_here c.args.out.now) (g.met.K.Sink.same_here c.args.out.now)

pub returns-in_err-append_item : goal.returns-in_err-append_item
returns-in_err-append_item g c =
    let parts = items-first c.args.design.now c.args.layout.now c.loop-finding.rest.now c.in-Some.finding.now c.in-Some.after.now c.in-Some.ensures.cases.0 in
    so_far-failed c.from_residual.result _ (g.met.K.Sink.place_then _ _ _) (g.met.K.Sink.same_then _ _ _) c.from_residual.ensures.0 c.loop-finding.invariant parts
    c.in_err-append_item.ensures

pub loop-finding-preserved : goal.loop-finding-preserved
loop-finding-preserved g c =
    let parts = items-first c.args.design.now c.args.layout.now c.loop-finding.rest.now c.in-Some.finding.now c.in-Some.after.now c.in-Some.ensures.cases.0 in
    so_far-more (g.met.K.Sink.place_then _ _ _) (g.met.K.Sink.same_then _ _ _ true) c.loop-finding.invariant parts c.in_ok-append_item.ensures

pub returns : goal.returns
returns g c =
    let none = items-none c.args.design.now c.args.layout.now c.loop-finding.rest.now (nil_from_length c.loop-finding.rest.now c.in_default.ensures.cases) in
    so_far-done _ none c.loop-finding.invariant
