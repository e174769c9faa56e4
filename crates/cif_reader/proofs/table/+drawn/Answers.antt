use Rattle.std.proofs.Common.{◌∷◌, ◌∙◌, ap, sym, subst, arith}
use Rattle.std.specs.List.{AllByRecursion}
use Rattle.cif_reader.specs.Within.{IsShapeWithin}
use Rattle.cif_reader.specs.declared.table.Item.{Item}
use Rattle.cif_reader.proofs.TableLemmas.{copied-first, own-first, copied-next, all-done}
use Rattle.cif_reader.proofs.table.+drawn.Goals as goal

pub drawn-requires : goal.drawn-requires
drawn-requires t c =
    let there = copied-first c.args.table.now c.loop-item.rest.now c.in-Some.after.now c.in-Copied.of c.in-Copied.turn c.index-table-of.result c.as_slice.result.now c.requires.table c.loop-item.invariant.items
    (c.in-Some.ensures.cases.0 ∙ ap (λ (i : Item). i ∷ c.in-Some.after.now) c.in-Copied.is) c.index-table-of.is c.as_slice.ensures.value in
    (omega (arith, there.fewer), (there.front, there.fit))

pub push_moved-requires : goal.push_moved-requires
push_moved-requires t c =
    let there = copied-first c.args.table.now c.loop-item.rest.now c.in-Some.after.now c.in-Copied.of c.in-Copied.turn c.index-table-of.result c.as_slice.result.now c.requires.table c.loop-item.invariant.items
    (c.in-Some.ensures.cases.0 ∙ ap (λ (i : Item). i ∷ c.in-Some.after.now) c.in-Copied.is) c.index-table-of.is c.as_slice.ensures.value in
    subst (AllByRecursion IsShapeWithin) (sym (c.as_slice-in-Copied.ensures.value ∙ c.in_ok-copied-in-Copied.ensures)) there.near

pub loop-item-preserved-in_ok-push-in-Own : goal.loop-item-preserved-in_ok-push-in-Own
loop-item-preserved-in_ok-push-in-Own t c =
    own-first c.args.table.now c.args.items.now c.loop-item.rest.now c.in-Some.after.now c.in-Own.shape c.loop-item.shapes.items c.push.new.self.items
    c.loop-item.invariant (c.in-Some.ensures.cases.0 ∙ ap (λ (i : Item). i ∷ c.in-Some.after.now) c.in-Own.is) c.in_ok-push-in-Own.ensures.items

pub loop-item-preserved : goal.loop-item-preserved
loop-item-preserved t c =
    let first = c.in-Some.ensures.cases.0 ∙ ap (λ (i : Item). i ∷ c.in-Some.after.now) c.in-Copied.is in
    let there = copied-first c.args.table.now c.loop-item.rest.now c.in-Some.after.now c.in-Copied.of c.in-Copied.turn c.index-table-of.result c.as_slice.result.now c.requires.table c.loop-item.invariant.items
    first c.index-table-of.is c.as_slice.ensures.value in
    copied-next c.args.table.now c.args.items.now c.loop-item.rest.now c.in-Some.after.now c.in-Copied.of c.in-Copied.turn c.as_slice.result.now
    c.as_slice-in-Copied.result.now c.loop-item.shapes.items c.push_moved.new.into.items there c.loop-item.invariant first
    (c.as_slice-in-Copied.ensures.value ∙ c.in_ok-copied-in-Copied.ensures) c.in_ok-push_moved-in-Copied.ensures

pub returns : goal.returns
returns t c =
    all-done c.args.table.now c.args.items.now c.loop-item.rest.now c.loop-item.shapes.items c.loop-item.invariant c.in_default.ensures.cases
