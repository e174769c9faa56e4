use Rattle.std.proofs.Common.{sym}
use Rattle.cif_reader.proofs.BehindLemmas.{finish-behind}
use Rattle.cif_reader.proofs.standing.step_finish.Goals as goal

pub returns-in-Ok : goal.returns-in-Ok
returns-in-Ok c =
    let h = c.in-Ok.ensures in
    finish-behind c.args.standing.now c.finished.new.standing c.in-Some.definition c.requires.is (sym c.in-Some.ensures.value)
    (record { main_is = h.main_is; table_is = h.table_is; outside = h.outside })
