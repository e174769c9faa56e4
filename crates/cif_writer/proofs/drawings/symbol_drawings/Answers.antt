use Rattle.std.proofs.Common.{◌++◌, ◌∙◌, ◌<◌, ◌≤◌, ℕ, List, ap, ap₂, map, subst, sym}
use Rattle.std.specs.List.{AllByRecursion}
use Rattle.channel_stack.specs.Layouts.{feed_drawing}
use Rattle.design_model.specs.Netlist.{IsNetlist}
use Rattle.geom_core.specs.declared.layout.Shape.{Shape}
use Rattle.cif_writer.proofs.SymbolDrawings.{drawings-are}
use Rattle.cif_writer.proofs.Writable.{feeds-room}
use Rattle.cif_writer.proofs.drawings.symbol_drawings.Goals as goal

pub feed_drawings-requires : goal.feed_drawings-requires
feed_drawings-requires c =
    let netlist : IsNetlist c.args.design.now = subst IsNetlist c.design.view_is c.design.invariant.netlist in
    subst (AllByRecursion (λ (h : ℕ). (0 < h) × (h ≤ 200000000))) (sym (c.as_slice.ensures.value ∙ c.in_ok-heights.ensures))
    (feeds-room c.args.rules.now c.args.design.now c.args.fed.now c.requires.valid netlist c.requires.fed c.requires.high)

pub returns-clause-drawings : goal.returns-clause-drawings
returns-clause-drawings c =
    c.new.ensures ∙ c.in_ok-append.ensures.items
    ∙ ap₂ (λ (kinds : List (List Shape)) (feeds : List (List Shape)). kinds ++ feeds) c.in_ok-drawings.ensures
    (c.in_ok-feeds.ensures ∙ ap (map (feed_drawing c.args.rules.now)) (c.as_slice.ensures.value ∙ c.in_ok-heights.ensures))
    ∙ sym (drawings-are c.args.rules.now c.args.design.now c.args.fed.now)
