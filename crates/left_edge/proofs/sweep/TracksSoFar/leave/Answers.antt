use Rattle.std.proofs.Common.{◌≡◌, ◌<◌, ◌||◌, eqb, add-one, sym, ◌∙◌, ℕ, length, get_or, Result, Ok, Err, OnOk}
use Rattle.std.specs.BTreeSet.{contains}
use Rattle.std.specs.Ordering.{nat_cmp}
use Rattle.channel_model.specs.Nets.{nets_of}
use Rattle.left_edge.specs.Columns.{net_at}
use Rattle.left_edge.proofs.SweptLaws.{passed-same, passed}
use Rattle.left_edge.proofs.sweep.TracksSoFar.leave.Goals as goal

pub returns-then-not-is_end : goal.returns-then-not-is_end
returns-then-not-is_end c =
    rw add-one
    (passed-same c.args.spanned.now.channel.now c.args.spanned.now.valid c.args.spanned.now.free c.args.column c.args.self.now (rw add-one at c.requires.swept)
    (sym c.is_end.ensures ∙ c.if-not-is_end.true))

on_ok : {T E : Type 0} (r : Result T E) (A B C P : Type 0) → (A → B → C → P) → OnOk r A → OnOk r B → OnOk r C → OnOk r P
on_ok (Ok x) A B C P all first second third = all first second third
on_ok (Err e) A B C P all first second third = tt

pub returns : goal.returns
returns c =
    let place = c.net_place.result in
    let old = c.args.self.now in
    let new = c.release.new.self in
    let within : place < length (nets_of c.args.spanned.now.channel.now) = rw c.args.spanned.now.listed at c.net_place.ensures.place in
    let at : get_or (nets_of c.args.spanned.now.channel.now) place 0 ≡ net_at c.args.spanned.now.channel.now c.args.column = rw c.args.spanned.now.listed at c.net_place.ensures.there in
    rw add-one
    (on_ok c.release.result _ _ _ _
    (λ (opened : (l : ℕ) → contains nat_cmp new.free l ≡ (eqb l c.level-level.result || contains nat_cmp old.free l)) counted stored.
    passed c.args.spanned.now.channel.now c.args.spanned.now.valid c.args.spanned.now.free c.args.column old new place (rw add-one at c.requires.swept)
    (sym c.is_end.ensures ∙ c.if-not-is_end.false) within at counted stored (rw c.level-level.ensures at opened))
    c.release.ensures.free c.release.ensures.count c.release.ensures.levels)
