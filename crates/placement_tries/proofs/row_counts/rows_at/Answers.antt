use Rattle.std.proofs.Common.{arith}
use Rattle.placement_tries.proofs.RowLaws.{read-within}
use Rattle.placement_tries.proofs.row_counts.rows_at.Goals as goal

pub returns-clause-some : goal.returns-clause-some
returns-clause-some c =
    (read-within c.in_ok-list.list.items c.args.square _ c.len.result c.index.result.now c.requires.some c.requires.few c.in_ok-list.ensures.is (omega (arith, c.in_ok-list.list.ok.0)) c.index.ensures).some

pub returns-clause-few : goal.returns-clause-few
returns-clause-few c =
    (read-within c.in_ok-list.list.items c.args.square _ c.len.result c.index.result.now c.requires.some c.requires.few c.in_ok-list.ensures.is (omega (arith, c.in_ok-list.list.ok.0)) c.index.ensures).few
