use Rattle.std.proofs.Common.{◌≡◌, subst, arith, IfOk}
use Rattle.channel_model.specs.Nets.{nets_of}
use Rattle.channel_model.proofs.NetsOf.{nets-are}
use Rattle.left_edge.proofs.ColumnLaws.{ascending_nets}
use Rattle.left_edge.proofs.SpanLaws.{spans-made, listed_columns}
use Rattle.left_edge.proofs.spans.net_spans.Goals as goal

pub reaches-requires-clause-ascending : goal.reaches-requires-clause-ascending
reaches-requires-clause-ascending c = ascending_nets c.args.free.now.channel.now c.args.free.now.nets.now c.args.free.now.listed

pub reaches-requires-clause-listed : goal.reaches-requires-clause-listed
reaches-requires-clause-listed c =
    rw (c.deref.ensures.value, c.args.free.now.listed)
    (listed_columns c.args.free.now.channel.now _ (nets-are c.args.free.now.channel.now) c.in_ok-columns.columns.items c.in_ok-columns.ensures.long c.in_ok-columns.ensures.nets)

pub reaches-requires-clause-positive : goal.reaches-requires-clause-positive
reaches-requires-clause-positive c = rw c.args.free.now.listed (λ net member. ((nets-are c.args.free.now.channel.now).standing net member).0)

pub reaches-requires-clause-short : goal.reaches-requires-clause-short
reaches-requires-clause-short c = omega (arith, c.args.free.now.valid.within, c.in_ok-columns.ensures.long, c.deref.ensures.len)

pub returns : goal.returns
returns c =
    rw c.args.free.now.listed
    (subst (λ rs. IfOk c.spans_of.result (λ spans. spans.items ≡ rs))
    (spans-made c.args.free.now.channel.now c.args.free.now.valid c.args.free.now.free c.in_ok-columns.columns.items c.in_ok-columns.ensures.long
    c.in_ok-columns.ensures.nets (nets_of c.args.free.now.channel.now) (λ net member. ((nets-are c.args.free.now.channel.now).standing net member).0))
    (rw (c.deref-2.ensures.value, c.in_ok-reaches.ensures, c.deref.ensures.value, c.args.free.now.listed) at c.spans_of.ensures))
