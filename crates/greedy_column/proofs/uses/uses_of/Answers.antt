use Rattle.std.proofs.Common.{ap, rules, arith, List, length, length-append}
use Rattle.channel_model.specs.Pins.{IsChannel}
use Rattle.greedy_column.specs.declared.uses.Use.{Use}
use Rattle.greedy_column.specs.Uses.{uses_from}
use Rattle.greedy_column.proofs.StartLaws.{uses_from-few}
use Rattle.greedy_column.proofs.uses.uses_of.Goals as goal

pub returns-clause-few : goal.returns-clause-few
returns-clause-few c =
    let channel : IsChannel c.args.channel.now = search rules in
    omega (
      arith,
      ap (λ (l : List Use). length l) c.loop-a.invariant.so_far,
      length-append c.loop-a.uses.items (uses_from c.loop-a.tops.now c.loop-a.bottoms.now c.loop-a.column),
      uses_from-few c.args.channel.now.top c.args.channel.now.bottom 0,
      channel.within,
    )
