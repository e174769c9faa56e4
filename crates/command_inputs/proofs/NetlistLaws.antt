use Rattle.std.proofs.Common.{◌≡◌, ℕ, List, Result, Ok, Err}
use Rattle.blif_reader.specs.BlifReads.{blif_reads}
use Rattle.blif_reader.specs.declared.fault.BlifKind.{BlifKind}
use Rattle.blif_reader.specs.declared.file.BlifFile.{BlifFile}
use Rattle.command_inputs.specs.NetlistFiles.{netlist_said, netlist_verdict}
use Rattle.command_inputs.proofs.LimitLaws.{within-next}

-- the netlist that the bytes of a file give is the one as which they read
pub netlist-reads : (bytes : List ℕ) (netlist : BlifFile) → netlist_verdict bytes ≡ Ok netlist → blif_reads bytes ≡ Ok netlist
unfolding netlist_verdict
netlist-reads bytes netlist is = said (blif_reads bytes) (within-next _ _ bytes (λ whole. netlist_said (blif_reads whole)) netlist is)
  where
    said : (found : Result BlifFile (BlifKind × ℕ)) → netlist_said found ≡ Ok netlist → found ≡ Ok netlist
    said (Ok b) is = cc
    said (Err bad) is = cc
