use Rattle.std.proofs.Common.{rules, subst}
use Rattle.pin_assign.specs.ChannelTables.{AreTablesFor}
use Rattle.pin_assign.proofs.ChannelTables.{fed-tables}
use Rattle.pin_assign.proofs.tabling.channels.Goals as goal

pub returns-clause-tables : goal.returns-clause-tables
returns-clause-tables c = subst (AreTablesFor c.args.fed.now) (search rules) (fed-tables c.args.design.now (search rules) c.args.fed.now c.requires.fed)
