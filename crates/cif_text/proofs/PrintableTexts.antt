use Rattle.std.specs.Prelude.{◌≡◌, ℕ, ◌≤◌, List, [], ◌∷◌, length, Bool, true, false, ◌&&◌}
use Rattle.std.specs.List.{list_all}
use Rattle.geom_core.specs.LayerText.{is_layer_text}
use Rattle.cif_text.specs.declared.command.CifCommand.{CifCommand}
use Rattle.cif_text.specs.declared.command.CifCommand.TheVariants as commands
use Rattle.cif_text.specs.declared.command.UserKind.TheVariants as users
use Rattle.cif_text.specs.Bytes.{is_ascii_byte, not_semicolon, trimmed}
use Rattle.cif_text.specs.Printable.{IsNatural, IsCifNumber, IsPart, IsSize}

-- a byte of ASCII that is no semicolon
abbrev pub is_plain_byte : ℕ → Bool
is_plain_byte c = is_ascii_byte c && not_semicolon c

-- a name that a user command can give: not empty, of plain bytes, without white at its ends
pub record IsNameText (text : List ℕ) : Type 0 where
  pub some : 1 ≤ length text
  pub plain : list_all is_plain_byte text ≡ true
  pub bare : trimmed text ≡ text

-- a command whose line reads as that command
abbrev pub IsPrintable : CifCommand → Type 0
IsPrintable (commands.Box long wide cx cy upright) = IsSize long × IsSize wide × IsCifNumber cx × IsCifNumber cy
IsPrintable (commands.Layer text) = is_layer_text text ≡ true
IsPrintable (commands.Start n a b) = IsNatural n × IsPart a × IsPart b
IsPrintable (commands.Call n flip quarters dx dy) = IsNatural n × (quarters ≤ 3) × IsCifNumber dx × IsCifNumber dy
IsPrintable (commands.User users.SymbolName text) = IsNameText text
IsPrintable (commands.User users.InstanceName text) = IsNameText text
IsPrintable (commands.User users.Label text) = IsNameText text
IsPrintable (commands.Wire width path) = ⊥
IsPrintable (commands.Polygon path) = ⊥
IsPrintable (commands.User users.Other text) = ⊥
IsPrintable _ = Unit {0}

-- printable commands whose definitions each start outside of others and finish, up to the one end command; the first
-- argument says whether a definition is open
abbrev pub IsText : Bool → List CifCommand → Type 0
IsText inside [] = ⊥
IsText inside (commands.End ∷ cs) = (inside ≡ false) × (cs ≡ [])
IsText inside (commands.Finish ∷ cs) = (inside ≡ true) × IsText false cs
IsText inside (commands.Start n a b ∷ cs) = (inside ≡ false) × IsPrintable (commands.Start n a b) × IsText true cs
IsText inside (c ∷ cs) = IsPrintable c × IsText inside cs
