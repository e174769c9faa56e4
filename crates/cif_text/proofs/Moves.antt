use Rattle.std.specs.Prelude.{ℕ, List, length, Result, Ok}
use Rattle.geom_core.specs.Turning.{Turning}
use Rattle.cif_text.specs.declared.fault.CifKind.{CifKind}
use Rattle.cif_text.specs.Bytes.{is_blank, is_separator, skip}
use Rattle.cif_text.specs.Calls.{steps_of, after_all}
use Rattle.cif_text.specs.Forms.{Form}
use Rattle.read_base.specs.Steps.{◌>>=◌}
use Rattle.cif_text.specs.declared.misfit.Misfit.{Misfit}
use Rattle.cif_text.specs.Numbers.{natural}
use Rattle.cif_text.specs.Transforms.{call_under, moves_of}

-- what further steps of a call do behind others
abbrev pub moves_from : Result Turning CifKind → List ℕ → Result (Result Turning CifKind) Misfit
moves_from so_far bytes = steps_of (length bytes) bytes >>= λ steps. Ok (so_far >>= after_all steps)

-- the form of a call, by what its steps do together
abbrev pub call_by_moves : List ℕ → Form
call_by_moves body = do
  n ← natural (skip is_separator body)
  whole ← moves_of (skip is_blank n.1)
  Ok (call_under n.0 whole)
