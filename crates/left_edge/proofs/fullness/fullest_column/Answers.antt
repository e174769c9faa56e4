use Rattle.std.proofs.Common.{◌≡◌, ◌<◌, ◌∙◌, ap, length, sym, subst, arith}
use Rattle.channel_model.specs.Pins.{Pins, IsChannel}
use Rattle.channel_model.specs.Density.{is_over}
use Rattle.channel_model.proofs.DensityLaws.{carried_none}
use Rattle.std.specs.List.{count_by}
use Rattle.left_edge.proofs.FullnessLaws.{IsFirstMost, Step, first_most-none, step_of, most_of, fullest_of}
use Rattle.left_edge.proofs.fullness.fullest_column.Goals as goal

pub loop-column-init : goal.loop-column-init
loop-column-init c = record { going = sym (carried_none c.args.spanned.now.spans.now); most = first_most-none _ }

step : (c : goal.After-is_end-ends) → Step c.args.spanned.now.spans.now c.loop-column.column c.loop-column.fullness.open c.is_begin-begins.result c.is_end-ends.result
step c =
    let top : c.items-column-end.result.now ≡ c.args.spanned.now.channel.now.top = c.items-column-end.ensures ∙ ap (λ (p : Pins). p.top) c.channel.view_is in
    let within : c.loop-column.column < length c.args.spanned.now.channel.now.top = rw top at c.loop-column-test.true in
    step_of c.args.spanned.now.channel.now (subst IsChannel c.channel.view_is c.channel.invariant) c.args.spanned.now.free c.args.spanned.now.nets.now c.args.spanned.now.spans.now c.loop-column.column
    c.loop-column.fullness.open c.is_begin-begins.result c.is_end-ends.result c.args.spanned.now.listed c.args.spanned.now.spanned within c.loop-column.invariant.going
    c.is_begin-begins.ensures c.is_end-ends.ensures

pub with-fullness-requires-clause-room : goal.with-fullness-requires-clause-room
with-fullness-requires-clause-room c = (step c).room

pub with-fullness-requires-clause-ended : goal.with-fullness-requires-clause-ended
with-fullness-requires-clause-ended c = (step c).ended

pub loop-column-preserved : goal.loop-column-preserved
loop-column-preserved c =
    let top : c.items-column-end.result.now ≡ c.args.spanned.now.channel.now.top = c.items-column-end.ensures ∙ ap (λ (p : Pins). p.top) c.channel.view_is in
    let within : c.loop-column.column < length c.args.spanned.now.channel.now.top = rw top at c.loop-column-test.true in
    let here = step_of c.args.spanned.now.channel.now (subst IsChannel c.channel.view_is c.channel.invariant) c.args.spanned.now.free c.args.spanned.now.nets.now c.args.spanned.now.spans.now
    c.loop-column.column c.loop-column.fullness.open c.is_begin-begins.result c.is_end-ends.result c.args.spanned.now.listed c.args.spanned.now.spanned within
    c.loop-column.invariant.going c.is_begin-begins.ensures c.is_end-ends.ensures in
    record {
      going = c.with-fullness.ensures.going ∙ here.next;
      most = rw (c.with-fullness.ensures.most, c.with-fullness.ensures.column)
          (most_of c.args.spanned.now.spans.now c.loop-column.column c.loop-column.fullness.open c.loop-column.fullness.most c.loop-column.fullness.column _ _ here
          c.loop-column.invariant.most);
    }

pub returns : goal.returns
returns c =
    let top : c.items-column-end.result.now ≡ c.args.spanned.now.channel.now.top = c.items-column-end.ensures ∙ ap (λ (p : Pins). p.top) c.channel.view_is in
    let bound = rw top at c.loop-column.auto.column-end in
    let past = rw top at c.loop-column-test.false in
    let all : c.loop-column.column ≡ length c.args.spanned.now.channel.now.top = omega arith in
    let most = subst (λ n. IsFirstMost (λ k. count_by (is_over k) c.args.spanned.now.spans.now) n c.loop-column.fullness.most c.loop-column.fullness.column) all
    c.loop-column.invariant.most in
    let found = fullest_of c.args.spanned.now.channel.now (subst IsChannel c.channel.view_is c.channel.invariant) c.args.spanned.now.free c.args.spanned.now.nets.now c.args.spanned.now.spans.now
    c.loop-column.fullness.most c.loop-column.fullness.column c.args.spanned.now.listed c.args.spanned.now.spanned most in
    record { fullest = found.0; none = found.1 }
