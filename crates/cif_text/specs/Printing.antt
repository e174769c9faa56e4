-- how commands are printed
use Rattle.std.specs.Prelude.{ℕ, zero, suc, ◌≤◌, List, [], ◌∷◌, ◌++◌, Bool, true, false, codes, decimal}
use Rattle.std.specs.Fmt.{signed_decimal}
use Rattle.std.specs.Str.{byte}
use Rattle.geom_core.specs.declared.corner.Corner.{Corner}
use Rattle.cif_text.specs.declared.command.CifCommand.{CifCommand}
use Rattle.cif_text.specs.declared.command.CifCommand.TheVariants as commands
use Rattle.cif_text.specs.declared.command.UserKind.TheVariants as users

-- parts, each behind a blank
abbrev pub blanked : List (List ℕ) → List ℕ
blanked [] = []
blanked (part ∷ parts) = byte " " ∷ part ++ blanked parts

-- the direction of a box whose length lies along y
abbrev pub upright_parts : Bool → List (List ℕ)
upright_parts true = codes "0" ∷ codes "1" ∷ []
upright_parts false = []

-- the mirroring of a call, before its other parts
abbrev pub flip_parts : Bool → List (List ℕ) → List (List ℕ)
flip_parts true parts = codes "M" ∷ codes "X" ∷ parts
flip_parts false parts = parts

-- the rotation of a call, before its other parts: where the x axis points after so many quarter turns
abbrev pub quarter_parts : ℕ → List (List ℕ) → List (List ℕ)
quarter_parts zero parts = parts
quarter_parts (suc zero) parts = codes "R" ∷ codes "0" ∷ codes "1" ∷ parts
quarter_parts (suc (suc zero)) parts = codes "R" ∷ codes "-1" ∷ codes "0" ∷ parts
quarter_parts (suc (suc (suc k))) parts = codes "R" ∷ codes "0" ∷ codes "-1" ∷ parts

-- the numbers of a path, point after point
abbrev pub path_parts : List Corner → List (List ℕ)
path_parts [] = []
path_parts (c ∷ cs) = signed_decimal c.x ∷ signed_decimal c.y ∷ path_parts cs

-- a command's first byte, and its others before the semicolon
abbrev pub bytes_of : CifCommand → ℕ × List ℕ
bytes_of (commands.Box long wide cx cy upright) =
    (byte "B", blanked (signed_decimal long ∷ signed_decimal wide ∷ signed_decimal cx ∷ signed_decimal cy ∷ upright_parts upright))
bytes_of (commands.Layer text) = (byte "L", blanked (text ∷ []))
bytes_of (commands.Start n a b) = (byte "D", codes "S" ++ blanked (decimal n ∷ decimal a ∷ decimal b ∷ []))
bytes_of commands.Finish = (byte "D", codes "F")
bytes_of (commands.Call n flip quarters dx dy) =
    (byte "C", blanked (decimal n ∷ flip_parts flip (quarter_parts quarters (codes "T" ∷ signed_decimal dx ∷ signed_decimal dy ∷ []))))
bytes_of (commands.Wire width path) = (byte "W", blanked (signed_decimal width ∷ path_parts path))
bytes_of (commands.Polygon path) = (byte "P", blanked (path_parts path))
bytes_of commands.Comment = (byte "(", codes "cellroute 1)")
bytes_of (commands.User users.SymbolName text) = (byte "9", blanked (text ∷ []))
bytes_of (commands.User users.InstanceName text) = (byte "9", codes "1" ++ blanked (text ∷ []))
bytes_of (commands.User users.Label text) = (byte "9", codes "4" ++ blanked (text ∷ []))
bytes_of (commands.User users.Other text) = (byte "0", blanked (text ∷ []))
bytes_of commands.End = (byte "E", [])

-- what stands behind a command: a semicolon and a line feed, for the end of the text the line feed alone
abbrev pub end_of : CifCommand → List ℕ
end_of commands.End = codes "\n"
end_of _ = codes ";\n"

-- a command's line
abbrev pub line : CifCommand → List ℕ
line c = (bytes_of c).0 ∷ (bytes_of c).1 ++ end_of c

-- the text of some commands: their lines, one after another
abbrev pub text_of : List CifCommand → List ℕ
text_of [] = []
text_of (c ∷ cs) = line c ++ text_of cs

-- the commands that are printed alone: no wire, no polygon and no user command, and of the calls those with at most three quarters
abbrev pub HasLine : CifCommand → Type 0
HasLine (commands.Call n flip quarters dx dy) = quarters ≤ 3
HasLine (commands.Wire width path) = ⊥
HasLine (commands.Polygon path) = ⊥
HasLine (commands.User kind text) = ⊥
HasLine _ = Unit {0}
