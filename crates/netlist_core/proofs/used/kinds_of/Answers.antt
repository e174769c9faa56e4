use Rattle.std.proofs.Common.{◌∙◌, ◌∷◌, ◌+◌, ℕ, List, Vec, Global, drop, ap, sym}
use Rattle.std.proofs.lemmas.List.{drop_more}
use Rattle.yal_reader.specs.declared.file.Module.{Module}
use Rattle.netlist_core.specs.Answers.{each}
use Rattle.netlist_core.specs.Cells.{kind_of}
use Rattle.netlist_core.specs.OnGrid.{kinds_for}
use Rattle.design_model.specs.declared.design.CellKind.{CellKind}
use Rattle.netlist_core.proofs.EachLaws.{after_front, agrees-stop, each-end, each-more, each-stop}
use Rattle.netlist_core.proofs.used.kinds_of.Goals as goal

pub loop-numbered-preserved : goal.loop-numbered-preserved
loop-numbered-preserved c =
    let f = kind_of c.args.rules.now in
    let rest = drop (c.loop-numbered.numbered-index + 1) c.args.used.now in
    let at = drop_more c.args.used.now c.loop-numbered.numbered-index c.numbered-item.result c.loop-numbered-test.true
    ∙ ap (λ (m : ℕ × Module). m ∷ rest) (sym c.numbered-item.is) in
    rw c.in_ok-push-in-Ok.ensures.items (each-more f c.loop-numbered.kinds.items c.numbered-item.result rest c.in-Ok.kind c.in-Ok.ensures
    ∙ ap (λ (l : List (ℕ × Module)). after_front c.loop-numbered.kinds.items (each f l)) (sym at) ∙ c.loop-numbered.invariant)

pub returns : goal.returns
unfolding kinds_for
returns c =
    sym c.loop-numbered.invariant
    ∙ each-end (kind_of c.args.rules.now) c.loop-numbered.kinds.items c.args.used.now c.loop-numbered.numbered-index c.loop-numbered-test.false

pub returns-in-Err : goal.returns-in-Err
unfolding kinds_for
returns-in-Err c =
    let f = kind_of c.args.rules.now in
    let rest = drop (c.loop-numbered.numbered-index + 1) c.args.used.now in
    let at = drop_more c.args.used.now c.loop-numbered.numbered-index c.numbered-item.result c.loop-numbered-test.true
    ∙ ap (λ (m : ℕ × Module). m ∷ rest) (sym c.numbered-item.is) in
    agrees-stop (λ kind. kind) (λ (v : Vec CellKind Global). v.items) c.in-Err.fault (f c.numbered-item.result) (kinds_for c.args.rules.now c.args.used.now)
    (λ is. sym c.loop-numbered.invariant ∙ ap (λ (l : List (ℕ × Module)). after_front c.loop-numbered.kinds.items (each f l)) at
    ∙ each-stop f c.loop-numbered.kinds.items c.numbered-item.result rest c.in-Err.fault is)
    c.in-Err.ensures
