use Rattle.std.proofs.Common.{◌<◌, ◌^◌, length, arith, sym, subst}
use Rattle.netlist_core.proofs.FoundModules.{few-names}
use Rattle.netlist_core.proofs.terminals.Terminals.new.Goals as goal

pub invariant_of-names : goal.invariant_of-names
invariant_of-names c = subst (λ l. length l < 2 ^ 32) (sym c.in_ok-names.ensures) (omega (arith, few-names c.args.lines.now, c.requires))
