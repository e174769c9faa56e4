use Rattle.std.proofs.Common.{ℕ, List, Vec, Global}
use Rattle.cif_text.specs.CifReads.{cif_reads}
use Rattle.cif_text.specs.declared.command.CifCommand.{CifCommand}
use Rattle.command_inputs.specs.LayoutFile.{cif_said, commands_verdict}
use Rattle.command_inputs.proofs.ReadingLaws.{loads-on, loads-stop}
use Rattle.command_inputs.proofs.layout_file.load_commands.Goals as goal

pub returns-in_err-bytes-clause-loads : goal.returns-in_err-bytes-clause-loads
unfolding commands_verdict
returns-in_err-bytes-clause-loads g c =
    loads-stop (λ (v : Vec ℕ Global). v.items) (λ (v : Vec CifCommand Global). v.items) (λ (whole : List ℕ). cif_said (cif_reads whole)) c.in_err-bytes.field-0.0 c.from_residual.result
    c.from_residual.ensures.1 c.in_err-bytes.ensures.loads

pub returns-clause-loads : goal.returns-clause-loads
unfolding commands_verdict
returns-clause-loads g c =
    rw c.or_stop-commands.ensures (loads-on (λ (v : Vec ℕ Global). v.items) (λ (v : Vec CifCommand Global). v.items) (λ (whole : List ℕ). cif_said (cif_reads whole)) c.in_ok-bytes.bytes _ c.read_text.result c.as_slice.ensures.value
    c.in_ok-bytes.ensures.loads c.read_text.ensures.says)
