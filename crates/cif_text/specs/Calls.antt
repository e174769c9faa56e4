-- the form of calls
use Rattle.std.specs.Prelude.{if◌then◌else◌, ℕ, zero, suc, ◌+◌, ◌-◌, ◌%◌, ℤ, pos, negsuc, ◌+ℤ◌, neg_ℤ, List, [], ◌∷◌, length, false, not, ◌&&◌, ◌==◌, nat_le, nat_abs, Option, Some, None, Result, Ok, Err}
use Rattle.std.specs.Str.{byte}
use Rattle.geom_core.specs.Turning.{Turning}
use Rattle.cif_text.specs.declared.command.CifCommand.{CifCommand}
use Rattle.cif_text.specs.declared.command.CifCommand.TheVariants as commands
use Rattle.cif_text.specs.declared.fault.CifKind.{CifKind}
use Rattle.cif_text.specs.declared.fault.CifKind.TheVariants as kinds
use Rattle.cif_text.specs.Bytes.{is_blank, is_separator, skip}
use Rattle.read_base.specs.Steps.{◌>>=◌}
use Rattle.cif_text.specs.declared.misfit.Misfit.{Misfit}
use Rattle.cif_text.specs.declared.misfit.Misfit.TheVariants.{Malformed}
use Rattle.cif_text.specs.Numbers.{greatest, natural, number, apart}
use Rattle.cif_text.specs.Forms.{Form}

-- a step of a call's transformation
pub data Step : Type 0 where
  -- adds to x and y
  translate : ℤ → ℤ → Step
  -- negates x
  mirror_x : Step
  -- negates y
  mirror_y : Step
  -- turns the x axis to this direction
  rotate : ℤ → ℤ → Step

-- two numbers among blanks, of which a step is made
abbrev pub point_of : (ℤ → ℤ → Step) → List ℕ → Result (Step × List ℕ) Misfit
point_of step bytes = do
  x ← number (skip is_blank bytes)
  y ← apart is_blank number x.1
  Ok (step x.0 y.0, y.1)

abbrev pub mirror_of : List ℕ → Result (Step × List ℕ) Misfit
mirror_of [] = Err Malformed
mirror_of (c ∷ cs) = if c == byte "X" then Ok (mirror_x, cs) else if c == byte "Y" then Ok (mirror_y, cs) else Err Malformed

-- CIF 2.0: `T` and a point, `M X`, `M Y`, or `R` and a direction
unfoldable pub step_of : ℕ → List ℕ → Result (Step × List ℕ) Misfit
step_of c bytes =
    if c == byte "T" then point_of translate bytes else
    if c == byte "M" then mirror_of (skip is_blank bytes) else
    if c == byte "R" then point_of rotate bytes else Err Malformed

-- any number of steps, among blanks; the first number is at least that of the bytes
unfoldable pub steps_of : ℕ → List ℕ → Result (List Step) Misfit
steps_of n [] = Ok []
steps_of zero (c ∷ cs) = Err Malformed
steps_of (suc n) (c ∷ cs) = do
  step ← step_of c cs
  others ← steps_of n (skip is_blank step.1)
  Ok (step.0 ∷ others)

-- x negated after this turning
abbrev pub mirrored : Turning → Turning
mirrored t = record { flip = not t.flip; quarters = (4 - t.quarters) % 4; dx = neg_ℤ t.dx; dy = t.dy }

-- a quarter turn, counter-clockwise, after this turning
abbrev pub quarter_turned : Turning → Turning
quarter_turned t = record { flip = t.flip; quarters = (t.quarters + 1) % 4; dx = neg_ℤ t.dy; dy = t.dx }

abbrev pub turned : ℕ → Turning → Turning
turned zero t = t
turned (suc k) t = quarter_turned (turned k t)

abbrev pub translated : ℤ → ℤ → Turning → Turning
translated x y t = record { flip = t.flip; quarters = t.quarters; dx = t.dx +ℤ x; dy = t.dy +ℤ y }

-- the quarter turns that bring the x axis to a direction; there are none where it is not along an axis
abbrev pub quarters_to : ℤ → ℤ → Option ℕ
quarters_to (pos (suc n)) (pos zero) = Some 0
quarters_to (pos zero) (pos (suc n)) = Some 1
quarters_to (negsuc n) (pos zero) = Some 2
quarters_to (pos zero) (negsuc n) = Some 3
quarters_to _ _ = None

abbrev pub turned_by : Option ℕ → Turning → Result Turning CifKind
turned_by (Some k) t = Ok (turned k t)
turned_by None t = Err kinds.Turned

-- negating y is negating x and then half a turn
abbrev pub after : Step → Turning → Result Turning CifKind
after (translate x y) t = Ok (translated x y t)
after mirror_x t = Ok (mirrored t)
after mirror_y t = Ok (turned 2 (mirrored t))
after (rotate a b) t = turned_by (quarters_to a b) t

-- CIF 2.0: the steps apply from left to right
abbrev pub after_all : List Step → Turning → Result Turning CifKind
after_all [] t = Ok t
after_all (step ∷ steps) t = after step t >>= after_all steps

abbrev pub at_rest : Turning
at_rest = record { flip = false; quarters = 0; dx = pos 0; dy = pos 0 }

-- the product's own: the whole offset has the magnitude of a number
abbrev pub call_of : ℕ → Turning → Result CifCommand CifKind
call_of n t =
    if nat_le (nat_abs t.dx) greatest && nat_le (nat_abs t.dy) greatest
    then Ok (commands.Call n t.flip t.quarters t.dx t.dy) else Err kinds.Number

-- CIF 2.0: `C`, the symbol's number and the transformation
unfoldable pub call_form : List ℕ → Form
call_form body = do
  n ← natural (skip is_separator body)
  steps ← steps_of (length n.1) (skip is_blank n.1)
  Ok (after_all steps at_rest >>= call_of n.0)
