use Rattle.column_tests.proofs.column_tables.first_other_in.Goals as goal

pub loop-column-init : goal.loop-column-init
loop-column-init g c = c.in_ok-state.ensures.state c.args.channel.now
