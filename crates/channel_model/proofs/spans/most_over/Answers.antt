use Rattle.std.proofs.Common.{◌<◌, arith, rules, sym, refl, ◌∙◌, add-one, length}
use Rattle.std.proofs.lemmas.List.{get_or_read}
use Rattle.std.proofs.lemmas.List.Sums.{count_by-le-length}
use Rattle.channel_model.specs.Density.{is_over}
use Rattle.channel_model.proofs.DensityLaws.{carried_none, swept, over_is}
use Rattle.channel_model.proofs.spans.most_over.Goals as goal

pub loop-column-init : goal.loop-column-init
loop-column-init c = record { opened = sym (carried_none c.args.spans.now); most = refl }

pub overflow_add-open : goal.overflow_add-open
overflow_add-open c =
    let column = c.loop-column.column in
    let begins = c.in_ok-begins.begins.items in
    let inside : column < length begins = search rules in
    omega (
      arith,
      over_is c.args.columns column c.args.spans.now c.requires.within,
      c.loop-column.invariant.opened,
      get_or_read begins column c.index.result.now inside c.index.ensures 0,
      c.in_ok-begins.ensures.counts column c.loop-column-test.true,
      count_by-le-length (is_over column) c.args.spans.now,
    )

pub overflow_sub-open : goal.overflow_sub-open
overflow_sub-open c =
    let column = c.loop-column.column in
    let begins = c.in_ok-begins.begins.items in
    let ends = c.in_ok-ends.ends.items in
    let in_begins : column < length begins = search rules in
    let in_ends : column < length ends = search rules in
    (swept c.args.columns column c.args.spans.now c.loop-column.open c.index.result.now c.index-in-loop-column.result.now
    c.requires.within c.loop-column.invariant.opened
    (get_or_read begins column _ in_begins c.index.ensures 0 ∙ c.in_ok-begins.ensures.counts column c.loop-column-test.true)
    (get_or_read ends column _ in_ends c.index-in-loop-column.ensures 0 ∙ c.in_ok-ends.ensures.counts column c.loop-column-test.true)).1

pub loop-column-preserved : goal.loop-column-preserved
loop-column-preserved c =
    let column = c.loop-column.column in
    let begins = c.in_ok-begins.begins.items in
    let ends = c.in_ok-ends.ends.items in
    let in_begins : column < length begins = search rules in
    let in_ends : column < length ends = search rules in
    let step = swept c.args.columns column c.args.spans.now c.loop-column.open c.index.result.now c.index-in-loop-column.result.now
    c.requires.within c.loop-column.invariant.opened
    (get_or_read begins column _ in_begins c.index.ensures 0 ∙ c.in_ok-begins.ensures.counts column c.loop-column-test.true)
    (get_or_read ends column _ in_ends c.index-in-loop-column.ensures 0 ∙ c.in_ok-ends.ensures.counts column c.loop-column-test.true) in
    record {
      opened = step.2;
      most = rw add-one (omega (arith, c.max-most.ensures, step.0, c.loop-column.invariant.most));
    }
