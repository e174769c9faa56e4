use Rattle.std.proofs.Common.{◌≡◌, ℕ, List, Vec, Global, Ok, Err, subst}
use Rattle.command_ends.specs.declared.refusal.Limited.TheVariants as limits
use Rattle.limits.specs.declared.TheConstants.{MOST_DESIGN_BYTES}
use Rattle.command_inputs.specs.NetlistFiles.{cells_verdict, stated_cells}
use Rattle.command_inputs.specs.declared.netlist_files.Cells.{Cells}
use Rattle.yal_reader.specs.YalReads.{yal_reads}
use Rattle.yal_reader.specs.declared.file.YalFile.{YalFile}
use Rattle.yal_reader.specs.declared.notation.Numbers.TheVariants.{Decimal}
use Rattle.command_inputs.proofs.LimitLaws.{within-whole}
use Rattle.command_inputs.proofs.ReadingLaws.{loads-on, loads-stop}
use Rattle.command_inputs.proofs.netlist_files.load_cells.Goals as goal

pub returns-in_err-bytes-clause-loads : goal.returns-in_err-bytes-clause-loads
unfolding cells_verdict
returns-in_err-bytes-clause-loads g c =
    loads-stop (λ (v : Vec ℕ Global). v.items) (λ (cells : Cells). cells.file) (stated_cells c.args.decimals) c.in_err-bytes.field-0.0 c.from_residual.result
    c.from_residual.ensures.1 c.in_err-bytes.ensures.loads

pub returns-in-Ok : goal.returns-in-Ok
unfolding cells_verdict
returns-in-Ok g c =
    let items = c.as_slice.ensures.value in
    let cells : Cells = record { text = c.in_ok-bytes.bytes; file = c.in-Ok.file } in
    let on = loads-on (λ (v : Vec ℕ Global). v.items) (λ (f : YalFile). f) (stated_cells c.args.decimals) c.in_ok-bytes.bytes _ (Ok c.in-Ok.file) items
    c.in_ok-bytes.ensures.loads c.in-Ok.ensures.says in
    record {
      loads = record { told = on.told; read = on.read };
      reads = subst (λ (text : List ℕ). yal_reads text (Decimal c.args.decimals) ≡ Ok c.in-Ok.file) items c.in-Ok.ensures.reads;
      text = λ bytes told. within-whole limits.Cells MOST_DESIGN_BYTES bytes c.in_ok-bytes.bytes.items (c.in_ok-bytes.ensures.loads.told bytes told);
    }

pub returns-in-Err-clause-loads : goal.returns-in-Err-clause-loads
unfolding cells_verdict
returns-in-Err-clause-loads g c =
    loads-on (λ (v : Vec ℕ Global). v.items) (λ (cells : Cells). cells.file) (stated_cells c.args.decimals) c.in_ok-bytes.bytes _ (Err c.in-Err.refusal) c.as_slice.ensures.value
    c.in_ok-bytes.ensures.loads (record { made = c.in-Err.ensures.says.made; command = c.in-Err.ensures.says.command })
