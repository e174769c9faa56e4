-- the forms of boxes, layers, definitions and user commands
use Rattle.std.specs.Prelude.{if◌then◌else◌, ℕ, zero, suc, ℤ, pos, negsuc, List, [], ◌∷◌, Bool, true, false, ◌&&◌, ◌==◌, codes, Option, Some, None, Result, Ok, Err}
use Rattle.std.specs.Str.{byte, bytes_eq}
use Rattle.std.specs.Char.{is_ascii_digit}
use Rattle.geom_core.specs.LayerText.{is_layer_code, is_layer_text}
use Rattle.cif_text.specs.declared.command.CifCommand.{CifCommand}
use Rattle.cif_text.specs.declared.command.CifCommand.TheVariants as commands
use Rattle.cif_text.specs.declared.command.UserKind.{UserKind}
use Rattle.cif_text.specs.declared.command.UserKind.TheVariants as users
use Rattle.cif_text.specs.declared.fault.CifKind.{CifKind}
use Rattle.cif_text.specs.declared.fault.CifKind.TheVariants as kinds
use Rattle.cif_text.specs.Bytes.{is_blank, is_separator, span, skip, ends, trimmed}
use Rattle.read_base.specs.Steps.{◌>>=◌}
use Rattle.cif_text.specs.declared.misfit.Misfit.{Misfit}
use Rattle.cif_text.specs.declared.misfit.Misfit.TheVariants.{Malformed}
use Rattle.cif_text.specs.Numbers.{natural, number, positive, apart}

-- what the bytes of a command, from behind its first byte to before its semicolon, read as: none of the command's forms,
-- or a form, which is a command or has a fault of its own
abbrev pub Form : Type 0
Form = Result (Result CifCommand CifKind) Misfit

-- a form that ends here: such bytes may follow, and no others
abbrev pub finished : (ℕ → Bool) → List ℕ → CifCommand → Form
finished p rest command = if ends p rest then Ok (Ok command) else Err Malformed

-- the axis that a direction points along, either way
pub data Axis : Type 0 where
  along_x : Axis
  along_y : Axis

abbrev pub axis_of : ℤ → ℤ → Option Axis
axis_of (pos (suc n)) (pos zero) = Some along_x
axis_of (negsuc n) (pos zero) = Some along_x
axis_of (pos zero) (pos (suc n)) = Some along_y
axis_of (pos zero) (negsuc n) = Some along_y
axis_of _ _ = None

-- a box whose length lies along this axis; there is none where a direction has no axis
abbrev pub box_along : ℕ → ℕ → ℤ → ℤ → Option Axis → Result CifCommand CifKind
box_along long wide cx cy (Some along_x) = Ok (commands.Box (pos long) (pos wide) cx cy false)
box_along long wide cx cy (Some along_y) = Ok (commands.Box (pos long) (pos wide) cx cy true)
box_along long wide cx cy None = Err kinds.Turned

-- the bytes behind a box's centre: perhaps a direction, else the length lies along x
unfoldable pub box_end : ℕ → ℕ → ℤ → ℤ → List ℕ → Form
box_end long wide cx cy bytes =
    if ends is_separator bytes then Ok (box_along long wide cx cy (Some along_x)) else do
      dx ← apart is_separator number bytes
      dy ← apart is_separator number dx.1
      if ends is_separator dy.1 then Ok (box_along long wide cx cy (axis_of dx.0 dy.0)) else Err Malformed

-- CIF 2.0: `B` length width centre, and perhaps a direction
unfoldable pub box_form : List ℕ → Form
box_form body = do
  long ← positive (skip is_separator body)
  wide ← apart is_separator positive long.1
  cx ← apart is_separator number wide.1
  cy ← apart is_separator number cx.1
  box_end long.0 wide.0 cx.0 cy.0 cy.1

-- CIF 2.0: a short name is one to four digits or upper-case letters
abbrev pub layer_of : List ℕ × List ℕ → Form
layer_of found = if is_layer_text found.0 then finished is_blank found.1 (commands.Layer found.0) else Err Malformed

-- CIF 2.0: `L` and a short name
unfoldable pub layer_form : List ℕ → Form
layer_form body = layer_of (span is_layer_code (skip is_blank body))

-- CIF 2.0: `DS`, the symbol's number, and perhaps a scale, which is 1 / 1 where none is given
unfoldable pub start_form : List ℕ → Form
start_form body = do
  n ← natural (skip is_separator body)
  if ends is_separator n.1 then Ok (Ok (commands.Start n.0 1 1)) else do
    a ← apart is_separator positive n.1
    b ← apart is_separator positive a.1
    finished is_separator b.1 (commands.Start n.0 a.0 b.0)

-- CIF 2.0: `D`, blanks, and then `S` for the start or `F` for the finish of a definition
abbrev pub definition_of : List ℕ → Form
definition_of [] = Err Malformed
definition_of (c ∷ cs) =
    if c == byte "S" then start_form cs else
    if c == byte "F" then finished is_blank cs commands.Finish else Err Malformed

unfoldable pub definition_form : List ℕ → Form
definition_form body = definition_of (skip is_blank body)

-- a user command that names something needs a name
abbrev pub naming : UserKind → List ℕ → Form
naming kind [] = Err Malformed
naming kind (c ∷ cs) = Ok (Ok (commands.User kind (c ∷ cs)))

-- the product's own: `9` names the symbol, `91` names the next call, and `94` is a label. The digits are those behind the first one
abbrev pub user_of : ℕ → List ℕ → List ℕ → Form
user_of first digits text =
    if first == byte "9" && bytes_eq digits [] then naming users.SymbolName text else
    if first == byte "9" && bytes_eq digits (codes "1") then naming users.InstanceName text else
    if first == byte "9" && bytes_eq digits (codes "4") then Ok (Ok (commands.User users.Label text)) else
    Ok (Ok (commands.User users.Other text))

-- CIF 2.0: a user command is digits and then any bytes
unfoldable pub user_form : ℕ → List ℕ → Form
user_form first body = user_of first (span is_ascii_digit body).0 (trimmed (span is_ascii_digit body).1)
