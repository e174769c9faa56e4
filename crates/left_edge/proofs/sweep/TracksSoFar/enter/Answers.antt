use Rattle.std.proofs.Common.{◌≡◌, ◌<◌, arith, add-one, sym, ◌∙◌, ap, List, ℕ, length, set, get_or}
use Rattle.channel_model.specs.Nets.{nets_of}
use Rattle.left_edge.specs.Columns.{net_at}
use Rattle.left_edge.proofs.TrackLaws.{lasts-few}
use Rattle.left_edge.proofs.SweptLaws.{swept-same, given}
use Rattle.left_edge.proofs.sweep.TracksSoFar.enter.Goals as goal

pub returns-then-not-is_begin : goal.returns-then-not-is_begin
returns-then-not-is_begin c =
    rw add-one (swept-same c.args.spanned.now.channel.now c.args.spanned.now.valid c.args.spanned.now.free c.args.column c.args.self.now c.requires.swept
    (sym c.is_begin.ensures ∙ c.if-not-is_begin.true))

pub take_lowest-level-requires : goal.take_lowest-level-requires
take_lowest-level-requires c =
    omega (arith, c.requires.swept.count, lasts-few c.args.spanned.now.channel.now c.args.column, c.requires.within, c.args.spanned.now.valid.within)

pub returns : goal.returns
returns c =
    let place = c.net_place.result in
    let within : place < length (nets_of c.args.spanned.now.channel.now) = rw c.args.spanned.now.listed at c.net_place.ensures.place in
    let at : get_or (nets_of c.args.spanned.now.channel.now) place 0 ≡ net_at c.args.spanned.now.channel.now c.args.column = rw c.args.spanned.now.listed at c.net_place.ensures.there in
    rw add-one
    (given c.args.spanned.now.channel.now c.args.spanned.now.valid c.args.spanned.now.free c.args.column c.args.self.now c.requires.swept
    (sym c.is_begin.ensures ∙ c.if-not-is_begin.false) c.take_lowest-level.result c.take_lowest-level.ensures.lowest c.take_lowest-level.ensures.full
    _ place within at c.take_lowest-level.ensures.count c.take_lowest-level.ensures.free
    (ap (λ (l : List ℕ). set l place c.take_lowest-level.result) c.take_lowest-level.ensures.levels))
