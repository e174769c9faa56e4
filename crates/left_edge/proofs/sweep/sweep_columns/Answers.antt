use Rattle.std.proofs.Common.{◌≡◌, ◌∙◌, ap, subst, arith, length, refl, rules}
use Rattle.channel_model.specs.Pins.{Pins, IsChannel}
use Rattle.left_edge.specs.Swept.{IsSwept}
use Rattle.left_edge.proofs.SweptLaws.{swept-none, swept-all}
use Rattle.left_edge.proofs.sweep.sweep_columns.Goals as goal

pub loop-column-init : goal.loop-column-init
loop-column-init c =
    swept-none c.args.spanned.now.channel.now (subst IsChannel c.channel.view_is c.channel.invariant) c.args.spanned.now.free _ refl
    (λ level. rw c.new.ensures.empty refl) (search rules)

pub returns : goal.returns
returns c =
    let top : c.items-column-end.result.now ≡ c.args.spanned.now.channel.now.top = c.items-column-end.ensures ∙ ap (λ (p : Pins). p.top) c.channel.view_is in
    let bound = rw top at c.loop-column.auto.column-end in
    let past = rw top at c.loop-column-test.false in
    let all : c.loop-column.column ≡ length c.args.spanned.now.channel.now.top = omega arith in
    let swept = subst (λ n. IsSwept c.args.spanned.now.channel.now n n c.loop-column.sweep) all c.loop-column.invariant in
    let channel = subst IsChannel c.channel.view_is c.channel.invariant in
    record { count = swept.count; levels = rw c.args.spanned.now.listed (swept-all c.args.spanned.now.channel.now channel c.args.spanned.now.free c.loop-column.sweep swept) }
