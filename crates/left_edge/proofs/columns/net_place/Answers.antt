use Rattle.left_edge.proofs.ColumnLaws.{listed_net, ascending_nets}
use Rattle.left_edge.proofs.columns.net_place.Goals as goal

pub place_of-requires-clause-ascending : goal.place_of-requires-clause-ascending
place_of-requires-clause-ascending c = ascending_nets c.args.spanned.now.channel.now c.args.spanned.now.nets.now c.args.spanned.now.listed

pub place_of-requires-clause-listed : goal.place_of-requires-clause-listed
place_of-requires-clause-listed c = rw c.net_at.ensures (listed_net c.args.spanned.now.channel.now c.args.spanned.now.nets.now c.args.column c.args.spanned.now.listed c.requires.some)
