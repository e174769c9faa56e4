use Rattle.std.proofs.Common.{ℕ, List, Vec, Global}
use Rattle.blif_reader.specs.BlifReads.{blif_reads}
use Rattle.blif_reader.specs.declared.file.BlifFile.{BlifFile}
use Rattle.command_inputs.specs.NetlistFiles.{netlist_said, netlist_verdict}
use Rattle.command_inputs.proofs.ReadingLaws.{loads-on, loads-stop}
use Rattle.command_inputs.proofs.netlist_files.load_netlist.Goals as goal

pub returns-in_err-bytes-clause-loads : goal.returns-in_err-bytes-clause-loads
unfolding netlist_verdict
returns-in_err-bytes-clause-loads g c =
    loads-stop (λ (v : Vec ℕ Global). v.items) (λ (b : BlifFile). b) (λ (whole : List ℕ). netlist_said (blif_reads whole)) c.in_err-bytes.field-0.0 c.from_residual.result
    c.from_residual.ensures.1 c.in_err-bytes.ensures.loads

pub returns-clause-loads : goal.returns-clause-loads
unfolding netlist_verdict
returns-clause-loads g c =
    rw c.or_stop-netlist.ensures (loads-on (λ (v : Vec ℕ Global). v.items) (λ (b : BlifFile). b) (λ (whole : List ℕ). netlist_said (blif_reads whole)) c.in_ok-bytes.bytes _ c.stated_netlist.result c.as_slice.ensures.value
    c.in_ok-bytes.ensures.loads c.stated_netlist.ensures.says)
