-- a command, by its first byte, and its faults
use Rattle.std.specs.Prelude.{if◌then◌else◌, ℕ, suc, ◌+◌, ◌-◌, List, [], ◌∷◌, length, Bool, true, not, ◌&&◌, ◌||◌, ◌==◌, Option, Some, None, Result, Ok, Err}
use Rattle.std.specs.Str.{byte}
use Rattle.std.specs.Char.{is_ascii_digit}
use Rattle.cif_text.specs.declared.command.CifCommand.{CifCommand}
use Rattle.cif_text.specs.declared.command.CifCommand.TheVariants as commands
use Rattle.cif_text.specs.declared.fault.CifKind.{CifKind}
use Rattle.cif_text.specs.declared.fault.CifKind.TheVariants as kinds
use Rattle.cif_text.specs.Flaws.{Flaw}
use Rattle.cif_text.specs.Bytes.{is_blank, span, skip, begins, ends, not_semicolon}
use Rattle.cif_text.specs.declared.misfit.Misfit.TheVariants.{TooGreat, Malformed}
use Rattle.cif_text.specs.Forms.{Form, box_form, layer_form, definition_form, user_form}
use Rattle.cif_text.specs.Calls.{call_form}
use Rattle.cif_text.specs.Paths.{wire_form, polygon_form}

-- a command and the bytes behind it
abbrev pub Reading : Type 0
Reading = Result (CifCommand × List ℕ) Flaw

abbrev pub fails : {A : Type 0} → CifKind → ℕ → Result A Flaw
fails kind left = Err (record { kind = kind; left = left })

-- how many parentheses are open behind a byte inside a comment
abbrev pub open_behind : ℕ → ℕ → ℕ
open_behind c inner = if c == byte "(" then suc inner else if c == byte ")" then inner - 1 else inner

-- CIF 2.0: the parentheses of a comment nest. What follows the one that closes it; the first number counts the open ones inside
unfoldable pub after_comment : ℕ → List ℕ → Option (List ℕ)
after_comment inner [] = None
after_comment inner (c ∷ cs) = if c == byte ")" && inner == 0 then Some cs else after_comment (open_behind c inner) cs

-- the commands of CIF 2.0 that are left out: a round flash and the deletion of definitions
abbrev pub is_left_out : ℕ → List ℕ → Bool
is_left_out c body = c == byte "R" || (c == byte "D" && begins (λ d. d == byte "D") (skip is_blank body))

-- the form that a command's first byte calls for
abbrev pub form_of : ℕ → List ℕ → Form
form_of c body =
    if is_ascii_digit c then user_form c body else
    if c == byte "B" then box_form body else
    if c == byte "L" then layer_form body else
    if c == byte "D" then definition_form body else
    if c == byte "C" then call_form body else
    if c == byte "W" then wire_form body else
    if c == byte "P" then polygon_form body else Err Malformed

-- CIF 2.0: a definition starts outside of definitions and finishes inside one. Which commands may stand here
abbrev pub may_stand : Bool → CifCommand → Bool
may_stand inside (commands.Start n a b) = not inside
may_stand inside commands.Finish = inside
may_stand inside _ = true

-- what a command reads as from its form: so many bytes are left at the command, and these follow its semicolon
abbrev pub reading_of : Bool → ℕ → List ℕ → Form → Reading
reading_of inside left rest (Ok (Ok command)) = if may_stand inside command then Ok (command, rest) else fails kinds.BadCommand left
reading_of inside left rest (Ok (Err kind)) = fails kind left
reading_of inside left rest (Err (TooGreat before)) = fails kinds.Number (before + suc (length rest))
reading_of inside left rest (Err Malformed) = fails kinds.BadCommand left

-- a command that is cut at its semicolon, in its first byte, the others before the semicolon, and the bytes from there on
abbrev pub cut_of : Bool → ℕ → ℕ → List ℕ → List ℕ → Reading
cut_of inside left c body [] = fails kinds.NoEnd 0
cut_of inside left c body (semicolon ∷ rest) =
    if is_left_out c body then fails (kinds.LeftOut c) left else reading_of inside left rest (form_of c body)

-- what stands between a comment's closing parenthesis and its semicolon, and the bytes from there on
abbrev pub comment_end : ℕ → List ℕ → List ℕ → Reading
comment_end left body [] = fails kinds.NoEnd 0
comment_end left body (semicolon ∷ rest) = if ends is_blank body then Ok (commands.Comment, rest) else fails kinds.BadCommand left

abbrev pub comment_of : ℕ → Option (List ℕ) → Reading
comment_of left None = fails kinds.Unclosed left
comment_of left (Some bytes) = comment_end left (span not_semicolon bytes).0 (span not_semicolon bytes).1

-- the command that begins here, inside a definition or outside. CIF 2.0: the end command has no semicolon, and what follows
-- it is passed over
abbrev pub command_at : Bool → List ℕ → Reading
command_at inside [] = fails kinds.NoEnd 0
command_at inside (c ∷ cs) =
    if c == byte "(" then comment_of (length (c ∷ cs)) (after_comment 0 cs) else
    if c == byte "E" then (if inside then fails kinds.NoEnd (length (c ∷ cs)) else Ok (commands.End, [])) else
    cut_of inside (length (c ∷ cs)) c (span not_semicolon cs).0 (span not_semicolon cs).1
