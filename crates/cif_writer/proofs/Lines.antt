use Rattle.std.proofs.Common.{◌≡◌, ◌++◌, ◌∷◌, ◌∙◌, [], ap, append_assoc, ℕ, List, Option, None, Some}
use Rattle.std.proofs.lemmas.List.{append-nil}
use Rattle.cif_text.proofs.TextLemmas.{text_of-append}
use Rattle.std.specs.Fmt.{signed_decimal}
use Rattle.cif_text.specs.Printing.{blanked, line, text_of}
use Rattle.cif_text.specs.Written.{label_command, label_text, middle, name_commands, shapes_commands, symbol_commands}
use Rattle.cif_text.specs.declared.command.CifCommand.{CifCommand}
use Rattle.cif_text.specs.declared.command.CifCommand.TheVariants as commands
use Rattle.cif_text.specs.declared.command.UserKind.{UserKind}
use Rattle.cif_text.specs.declared.command.UserKind.TheVariants as users
use Rattle.geom_core.specs.declared.layout.Shape.{Shape}

-- the text of commands and one more
pub text-last : (cs : List CifCommand) (c : CifCommand) → text_of (cs ++ (c ∷ [])) ≡ text_of cs ++ line c
text-last cs c = text_of-append cs (c ∷ []) ∙ ap (λ (l : List ℕ). text_of cs ++ l) (append-nil (line c))

-- the text of a name, by the line of its command
pub name-text : (kind : UserKind) (digits name : List ℕ) → line (commands.User kind name) ≡ digits ++ (name ++ 59 ∷ 10 ∷ [])
    → text_of (name_commands kind (Some name)) ≡ digits ++ (name ++ 59 ∷ 10 ∷ [])
name-text kind digits name is = append-nil (line (commands.User kind name)) ∙ is

-- the text of a symbol: its number, its name, its shapes and its end
pub symbol-text : (n : ℕ) (name : Option (List ℕ)) (shapes : List Shape) → text_of (symbol_commands n (record { name = name; shapes = shapes }))
    ≡ line (commands.Start n 1 1) ++ (text_of (name_commands users.SymbolName name) ++ (text_of (shapes_commands None shapes) ++ line commands.Finish))
symbol-text n name shapes =
    ap (λ (l : List ℕ). line (commands.Start n 1 1) ++ l)
    (text_of-append (name_commands users.SymbolName name) (shapes_commands None shapes ++ (commands.Finish ∷ []))
    ∙ ap (λ (l : List ℕ). text_of (name_commands users.SymbolName name) ++ l) (text-last (shapes_commands None shapes) commands.Finish))

-- the line of a label: its digits, its name, and what stands behind the name
abbrev pub label_end : Shape → List ℕ
label_end s = blanked (signed_decimal (middle s.rect.x0 s.rect.x1) ∷ signed_decimal (middle s.rect.y0 s.rect.y1) ∷ []) ++ 59 ∷ 10 ∷ []

pub label-text : (digits name : List ℕ) (s : Shape) → ((text : List ℕ) → line (commands.User users.Label text) ≡ digits ++ (text ++ 59 ∷ 10 ∷ []))
    → line (label_command name s) ≡ digits ++ (name ++ label_end s)
label-text digits name s is =
    is (label_text name s)
    ∙ ap (λ (l : List ℕ). digits ++ l)
    (append_assoc name (blanked (signed_decimal (middle s.rect.x0 s.rect.x1) ∷ signed_decimal (middle s.rect.y0 s.rect.y1) ∷ [])) (59 ∷ 10 ∷ []))
