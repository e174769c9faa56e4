use Rattle.std.proofs.Common.{◌≡◌, sym, subst, List, arith}
use Rattle.std.proofs.lemmas.List.{length-take-le}
use Rattle.std.specs.List.{AllByRecursion}
use Rattle.std.specs.Prelude.{IfOk}
use Rattle.geom_core.specs.declared.layout.Shape.{Shape}
use Rattle.cif_reader.specs.Within.{IsShapeWithin}
use Rattle.cif_reader.proofs.RefusalLemmas.{ok-more}
use Rattle.cif_reader.proofs.TabledLemmas.{copied-there, place-below, shapes-there}
use Rattle.cif_reader.proofs.found.Found.shapes.Goals as goal

pub slice_bounds-drawn-end : goal.slice_bounds-drawn-end
slice_bounds-drawn-end c =
    let below = place-below c.table.inside c.args.self.now.table.now c.args.self.now.place c.table.view_is c.args.self.now.below in
    rw c.deref.ensures.value (sym (length-take-le c.args.self.now.place c.table.inside.kept.items (omega arith)))

pub index-requires : goal.index-requires
index-requires c =
    rw c.table.inside.kept.ok.0 (place-below c.table.inside c.args.self.now.table.now c.args.self.now.place c.table.view_is c.args.self.now.below)

pub drawn-requires : goal.drawn-requires
drawn-requires c =
    let there = copied-there c.table.inside c.args.self.now.table.now c.args.self.now.place c.index.result.now c.as_slice.result.now c.table.invariant c.table.view_is
    c.args.self.now.below c.index.ensures c.as_slice.ensures.value in
    rw c.deref.ensures.value (record { table = there.front; items = there.fit })

pub returns : goal.returns
returns c =
    let there = copied-there c.table.inside c.args.self.now.table.now c.args.self.now.place c.index.result.now c.as_slice.result.now c.table.invariant c.table.view_is
    c.args.self.now.below c.index.ensures c.as_slice.ensures.value in
    let drawn = rw c.deref.ensures.value at c.drawn.ensures in
    record {
      is = subst (λ (ss : List Shape). IfOk c.drawn.result (λ shapes. shapes.items ≡ ss))
          (shapes-there c.table.inside c.args.self.now.table.now c.args.self.now.place c.as_slice.result.now c.table.view_is there) drawn;
      near = ok-more c.drawn.result _ _ (λ shapes is. subst (AllByRecursion IsShapeWithin) (sym is) there.near) drawn;
    }
