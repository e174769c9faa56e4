use Rattle.std.proofs.Common.{sym, subst, arith}
use Rattle.cif_reader.specs.declared.level.Given.TheVariants as givens
use Rattle.cif_reader.specs.Growing.{Grows}
use Rattle.cif_reader.specs.Standing.{shapes_made}
use Rattle.cif_reader.specs.Table.{IsKeptBehind}
use Rattle.cif_reader.specs.Tabled.{Tabled}
use Rattle.cif_reader.proofs.GrowingLemmas.{own-grows, IsCopy, copy-count, copy-grows}
use Rattle.cif_reader.proofs.RefusalLemmas.{on-ok-more}
use Rattle.cif_reader.proofs.growing.push.Goals as goal

pub returns-in-Own : goal.returns-in-Own
returns-in-Own c = λ t is sound near makes.
    let made = rw c.in-Own.is at makes in
    let few = rw c.in-Own.is at c.requires in
    let proper = rw c.in-Own.is at sound in
    let within = rw c.in-Own.is at near in
    rw c.in-Own.is (on-ok-more c.push_item.result _ _ (λ has. own-grows t.symbols c.args.kept.now c.push_item.new.kept c.in-Own.shape c.args.depth has (cc made)
    is within.0 proper few) c.push_item.ensures)

pub returns-else-symbol-eq0 : goal.returns-else-symbol-eq0
returns-else-symbol-eq0 c = λ t is sound near makes.
    let call = c.in-Copied.call in
    let kept = c.kept-symbol.result.now in
    let made = rw c.in-Copied.is at makes in
    let few = rw c.in-Copied.is at c.requires in
    let proper = rw c.in-Copied.is at sound in
    let within = rw c.in-Copied.is at near in
    let count = copy-count call.symbol.table.now call.symbol.place call.turn kept c.kept-symbol.ensures in
    let table = call.symbol.table.now in
    let copy : IsCopy table call.symbol.place call.turn kept c.args.depth =
    record { below = call.symbol.below; kept_is = c.kept-symbol.ensures; near_turn = proper.1; near = within; made = made } in
    rw c.in-Copied.is (on-ok-more c.push_item-in-Copied.result _ _
    (λ has. subst (λ (u : Tabled). Grows u.symbols c.args.kept.now c.push_item-in-Copied.new.kept
    (shapes_made (givens.Copied call)) c.args.depth) proper.0
    (copy-grows table call.symbol.place call.turn kept c.args.kept.now c.push_item-in-Copied.new.kept c.args.depth copy (rw c.moved_bounds-bounds.ensures at has)
    (subst (λ (u : Tabled). IsKeptBehind u.symbols c.args.kept.now) (sym proper.0) is) (omega (arith, few, count)))) c.push_item-in-Copied.ensures)
