use Rattle.std.proofs.Common.{List, Vec, Global}
use Rattle.geom_core.specs.declared.layout.Layout.{Layout}
use Rattle.cif_text.specs.declared.command.CifCommand.{CifCommand}
use Rattle.command_inputs.specs.LayoutFile.{expansion_by, layout_verdict, meaning_said}
use Rattle.command_inputs.proofs.ReadingLaws.{loads-on, loads-stop}
use Rattle.command_inputs.proofs.layout_file.load_layout.Goals as goal

pub returns-in_err-commands-clause-loads : goal.returns-in_err-commands-clause-loads
unfolding layout_verdict
returns-in_err-commands-clause-loads g c =
    loads-stop (λ (v : Vec CifCommand Global). v.items) (λ (l : Layout). l) (λ (cs : List CifCommand). meaning_said (expansion_by c.args.outline cs)) c.in_err-commands.field-0.0 c.from_residual.result
    c.from_residual.ensures.1 c.in_err-commands.ensures.loads

pub returns-clause-loads : goal.returns-clause-loads
unfolding layout_verdict
returns-clause-loads g c =
    rw c.or_stop.ensures (loads-on (λ (v : Vec CifCommand Global). v.items) (λ (l : Layout). l) (λ (cs : List CifCommand). meaning_said (expansion_by c.args.outline cs)) c.in_ok-commands.commands _ c.expand_commands.result c.as_slice.ensures.value
    c.in_ok-commands.ensures.loads c.expand_commands.ensures.says)
