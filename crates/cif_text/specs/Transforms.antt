-- the whole of a call's steps, as a program has it
use Rattle.std.specs.Prelude.{ℕ, ◌≤◌, nat_abs, List, length, Result, Ok}
use Rattle.geom_core.specs.Turning.{Turning}
use Rattle.cif_text.specs.declared.transform.Step.{Step as Move}
use Rattle.cif_text.specs.declared.transform.Step.TheVariants as moves
use Rattle.cif_text.specs.declared.command.CifCommand.{CifCommand}
use Rattle.cif_text.specs.declared.fault.CifKind.{CifKind}
use Rattle.cif_text.specs.Calls.{Step, translate, mirror_x, mirror_y, rotate, steps_of, after, after_all, at_rest, call_of}
use Rattle.read_base.specs.Steps.{◌>>=◌}
use Rattle.cif_text.specs.declared.misfit.Misfit.{Misfit}

-- a step, as a program has it
abbrev pub step_seen : Move → Step
step_seen (moves.Translate x y) = translate x.value y.value
step_seen moves.MirrorX = mirror_x
step_seen moves.MirrorY = mirror_y
step_seen (moves.Rotate a b) = rotate a.value b.value

-- an offset has at most this magnitude
pub record IsWithin (most : ℕ) (t : Turning) : Type 0 where
  pub across : nat_abs t.dx ≤ most
  pub up : nat_abs t.dy ≤ most

-- a step behind others
abbrev pub followed : Result Turning CifKind → Step → Result Turning CifKind
followed so_far step = so_far >>= after step

-- what the steps of a call do together
abbrev pub moves_of : List ℕ → Result (Result Turning CifKind) Misfit
moves_of bytes = steps_of (length bytes) bytes >>= λ steps. Ok (after_all steps at_rest)

-- the call of a symbol under what its steps do together
abbrev pub call_under : ℕ → Result Turning CifKind → Result CifCommand CifKind
call_under n whole = whole >>= call_of n
