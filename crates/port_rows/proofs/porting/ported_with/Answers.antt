use Rattle.std.proofs.Common.{sym, ◌∙◌}
use Rattle.port_rows.proofs.PortedMade.{clash-free}
use Rattle.port_rows.proofs.porting.ported_with.Goals as goal

pub with_ports-requires-clause-free : goal.with_ports-requires-clause-free
with_ports-requires-clause-free c =
    clash-free _ c.args.design.now c.in_ok-added.added.kinds.items c.in_ok-added.added.instances.items (sym c.in_ok-fault.ensures ∙ c.in-None-2.is)
