use Rattle.std.proofs.Common.{ap, arith, length}
use Rattle.greedy_column.specs.declared.entering.Entries.{Entries}
use Rattle.greedy_column.proofs.MadeLaws.{AreMadeForPins-from}
use Rattle.greedy_column.proofs.moment.Moment.column_of.Goals as goal

pub outcome_of-requires-clause-placed : goal.outcome_of-requires-clause-placed
outcome_of-requires-clause-placed g c = (
  c.args.fresh,
  (
    c.requires.numbered,
    (AreMadeForPins-from c.args.self.now.manner (g.C.Chooses.answers c.args.self.now.chooser.now) c.args.before c.args.fresh c.pin_of-top_pin.result c.pin_of-bottom_pin.result
        c.in_ok-entries.entries c.in_ok-entries.ensures).placed,
  ),
)

pub outcome_of-requires-clause-made : goal.outcome_of-requires-clause-made
outcome_of-requires-clause-made g c =
    (AreMadeForPins-from c.args.self.now.manner (g.C.Chooses.answers c.args.self.now.chooser.now) c.args.before c.args.fresh c.pin_of-top_pin.result c.pin_of-bottom_pin.result
    c.in_ok-entries.entries c.in_ok-entries.ensures).few

pub returns-clause-made : goal.returns-clause-made
returns-clause-made g c =
    let made = AreMadeForPins-from c.args.self.now.manner (g.C.Chooses.answers c.args.self.now.chooser.now) c.args.before c.args.fresh c.pin_of-top_pin.result c.pin_of-bottom_pin.result
    c.in_ok-entries.entries c.in_ok-entries.ensures in
    omega (arith, ap (λ (e : Entries). length e.made) c.taken_from.ensures.entries, made.few)
