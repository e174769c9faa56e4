use Rattle.channel_model.proofs.spans.counts.Goals as goal
use Rattle.std.proofs.Common.{◌<◌, arith, take, rules, eqb, get_or, length, refl}
use Rattle.std.proofs.lemmas.List.Sums.{count_by-le-length}
use Rattle.std.proofs.lemmas.List.{length-take, get_or_read}
use Rattle.std_laws.proofs.Counts.{counted-next}

pub overflow_add-index_mut : goal.overflow_add-index_mut
overflow_add-index_mut c =
    let number = get_or c.args.numbers.now c.loop-number.number-index 0 in
    let seen = take c.loop-number.number-index c.args.numbers.now in
    let below : number < c.args.bound = search rules in
    let inside : number < length c.loop-number.counts.items = search rules in
    omega (
      arith,
      get_or_read c.loop-number.counts.items number c.index_mut.result.now inside c.index_mut.ensures.value 0,
      c.loop-number.invariant.counted number below,
      count_by-le-length (λ n. eqb n number) seen,
      length-take c.loop-number.number-index c.args.numbers.now,
    )

pub loop-number-preserved : goal.loop-number-preserved
loop-number-preserved c =
    let number = get_or c.args.numbers.now c.loop-number.number-index 0 in
    let inside : number < length c.loop-number.counts.items = search rules in
    record {
      long = search rules;
      counted = λ k below.
          counted-next c.args.numbers.now c.loop-number.counts.items c.loop-number.number-index number c.index_mut.result.now
          c.loop-number-test.true refl inside
          (get_or_read c.loop-number.counts.items number c.index_mut.result.now inside c.index_mut.ensures.value 0)
          (λ j under. c.loop-number.invariant.counted j (omega (arith, c.loop-number.counts.ok.0))) k (omega (arith, c.loop-number.counts.ok.0));
    }
