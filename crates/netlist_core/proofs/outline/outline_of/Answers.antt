use Rattle.std.proofs.Common.{◌≡◌, None, Option, rules}
use Rattle.netlist_core.specs.Outline.{outline_of}
use Rattle.netlist_core.specs.declared.outline.Outline.{Outline}
use Rattle.netlist_core.proofs.RingLaws.{answer}
use Rattle.netlist_core.proofs.outline.outline_of.Goals as goal

pub returns-then-not-has_turns-clause-corners : goal.returns-then-not-has_turns-clause-corners
returns-then-not-has_turns-clause-corners c =
    let none : (let o : Option Outline = None in o) ≡ outline_of c.args.corners.now = search rules in
    answer c.args.corners.now None none

pub returns-else-not-has_turns-clause-corners : goal.returns-else-not-has_turns-clause-corners
returns-else-not-has_turns-clause-corners c =
    let is : c.between.result ≡ outline_of c.args.corners.now = search rules in
    answer c.args.corners.now c.between.result is
