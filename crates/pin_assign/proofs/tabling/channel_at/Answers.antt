use Rattle.std.proofs.Common.{rules}
use Rattle.pin_assign.proofs.TabledEntries.{channel-made}
use Rattle.pin_assign.proofs.tabling.channel_at.Goals as goal

pub from_paired-requires : goal.from_paired-requires
from_paired-requires c =
    channel-made c.args.design.now (search rules) c.args.fed.now c.requires.fed c.requires.narrow c.args.table.now c.requires.tabled c.args.channel
    c.in_ok-top.top.items c.in_ok-bottom.bottom.items (search rules) (search rules)
