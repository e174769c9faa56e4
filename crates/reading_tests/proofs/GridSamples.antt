use Rattle.std.proofs.Common.{◌≡◌, ℕ, pos, List, [], ◌∷◌, true, false, Some, None, Ok, Err, refl}
use Rattle.std.specs.Prelude.{codes}
use Rattle.samples.specs.Sample.{sample}
use Rattle.yal_reader.specs.declared.file.Call.{Call}
use Rattle.yal_reader.specs.declared.file.Flow.TheVariants as flows
use Rattle.yal_reader.specs.declared.file.Kind.TheVariants as kinds
use Rattle.yal_reader.specs.declared.file.Module.{Module}
use Rattle.yal_reader.specs.declared.file.YalFile.{YalFile}
use Rattle.netlist_core.specs.Calls.{call_fault, calls_fault}
use Rattle.netlist_core.specs.Cells.{grid_of, grid_positions, kind_fault, kind_of}
use Rattle.design_model.specs.Netlist.{Netlist}
use Rattle.netlist_core.specs.OnGrid.{calls_design, kinds_for, on_grid, used_design, used_modules}
use Rattle.netlist_core.specs.Answers.{each}
use Rattle.netlist_core.specs.Outline.{are_pairs, between, has_turns}
use Rattle.netlist_core.specs.Signals.{all_signals, nets_of}
use Rattle.netlist_core.specs.declared.fault.DesignFault.TheVariants as faults

-- a buffer of two columns with a power terminal
abbrev buf : Module
buf = record {
  name = codes "BUF";
  kind = kinds.Standard;
  corners = pos 0 ∷ pos 0 ∷ pos 16 ∷ pos 0 ∷ pos 16 ∷ pos 40 ∷ pos 0 ∷ pos 40 ∷ [];
  lines = record { name = codes "VDD"; flow = flows.PWR; spot = None }
      ∷ record { name = codes "a"; flow = flows.I; spot = Some (record { x = pos 4; y = pos 0; layer = codes "POLY" }) }
      ∷ record { name = codes "y"; flow = flows.O; spot = Some (record { x = pos 12; y = pos 40; layer = codes "poly" }) } ∷ [];
  calls = [];
}

abbrev top : List Call → Module
top calls = record { name = codes "TOP"; kind = kinds.Parent; corners = []; lines = []; calls = calls }

abbrev call_of : List ℕ → List ℕ → List (List ℕ) → Call
call_of name called signals = record { name = name; «module» = called; signals = signals }

abbrev file_of : List Call → YalFile
file_of calls = record { modules = top calls ∷ buf ∷ [] }

-- two buffers in a ring with an end: three words are nets, and the power's is none
abbrev ring : Netlist
ring = record {
  kinds = record {
    name = codes "BUF";
    columns = 2;
    height = 40;
    terminals = record { name = codes "VDD"; power = true } ∷ record { name = codes "a"; power = false } ∷ record { name = codes "y"; power = false } ∷ [];
    positions = record { terminal = 1; top = false; column = 0 } ∷ record { terminal = 2; top = true; column = 1 } ∷ [];
  } ∷ [];
  height = 40;
  instances = record { name = codes "u"; kind = 0 } ∷ record { name = codes "v"; kind = 0 } ∷ [];
  pins = record { instance = 0; terminal = 1; net = 1 } ∷ record { instance = 0; terminal = 2; net = 2 }
      ∷ record { instance = 1; terminal = 1; net = 2 } ∷ record { instance = 1; terminal = 2; net = 3 } ∷ [];
  nets = codes "n" ∷ codes "nn" ∷ codes "z" ∷ [];
}

ring-design : on_grid sample (file_of (call_of (codes "u") (codes "BUF") (codes "P" ∷ codes "n" ∷ codes "nn" ∷ [])
    ∷ call_of (codes "v") (codes "BUF") (codes "P" ∷ codes "nn" ∷ codes "z" ∷ []) ∷ [])) ≡ Ok ring
unfolding on_grid calls_design calls_fault call_fault all_signals nets_of used_modules used_design kinds_for each grid_of kind_of kind_fault grid_positions are_pairs has_turns between
ring-design = refl

-- a cell of one column, 48 units high, beside the buffer: each kind has its own height, and the design the greater
abbrev tall : Module
tall = record {
  name = codes "TALL";
  kind = kinds.Standard;
  corners = pos 0 ∷ pos 0 ∷ pos 8 ∷ pos 0 ∷ pos 8 ∷ pos 48 ∷ pos 0 ∷ pos 48 ∷ [];
  lines = record { name = codes "a"; flow = flows.I; spot = Some (record { x = pos 4; y = pos 48; layer = codes "POLY" }) } ∷ [];
  calls = [];
}

abbrev heights : Netlist
heights = record {
  kinds = record {
    name = codes "BUF";
    columns = 2;
    height = 40;
    terminals = record { name = codes "VDD"; power = true } ∷ record { name = codes "a"; power = false } ∷ record { name = codes "y"; power = false } ∷ [];
    positions = record { terminal = 1; top = false; column = 0 } ∷ record { terminal = 2; top = true; column = 1 } ∷ [];
  } ∷ record {
    name = codes "TALL";
    columns = 1;
    height = 48;
    terminals = record { name = codes "a"; power = false } ∷ [];
    positions = record { terminal = 0; top = true; column = 0 } ∷ [];
  } ∷ [];
  height = 48;
  instances = record { name = codes "u"; kind = 0 } ∷ record { name = codes "v"; kind = 1 } ∷ [];
  pins = record { instance = 0; terminal = 1; net = 1 } ∷ record { instance = 0; terminal = 2; net = 2 } ∷ record { instance = 1; terminal = 0; net = 2 } ∷ [];
  nets = codes "n" ∷ codes "nn" ∷ [];
}

heights-design : on_grid sample (record {
  modules = top (call_of (codes "u") (codes "BUF") (codes "P" ∷ codes "n" ∷ codes "nn" ∷ [])
      ∷ call_of (codes "v") (codes "TALL") (codes "nn" ∷ []) ∷ []) ∷ buf ∷ tall ∷ [];
}) ≡ Ok heights
unfolding on_grid calls_design calls_fault call_fault all_signals nets_of used_modules used_design kinds_for each grid_of kind_of kind_fault grid_positions are_pairs has_turns between
heights-design = refl

-- too few words are told before a module that is not there
few-words : on_grid sample (file_of (call_of (codes "u") (codes "BUF") (codes "n" ∷ [])
    ∷ call_of (codes "v") (codes "buf") (codes "n" ∷ []) ∷ [])) ≡ Err (faults.SignalCount 0)
unfolding on_grid calls_design calls_fault call_fault
few-words = refl

-- a PARENT is no module to be called
own-call : on_grid sample (file_of (call_of (codes "u") (codes "TOP") [] ∷ [])) ≡ Err (faults.NotStandard 0)
unfolding on_grid calls_design calls_fault call_fault
own-call = refl

-- nothing is called: a design without kinds
no-calls : on_grid sample (file_of []) ≡ Ok (record { kinds = []; height = 0; instances = []; pins = []; nets = [] })
unfolding on_grid calls_design calls_fault all_signals nets_of used_modules used_design kinds_for each
no-calls = refl

no-parent : on_grid sample (record { modules = buf ∷ [] }) ≡ Err faults.NoParent
unfolding on_grid
no-parent = refl
