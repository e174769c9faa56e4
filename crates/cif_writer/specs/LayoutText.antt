-- the whole text of a placed design
use Rattle.std.specs.Prelude.{◌≡◌, ◌⊎◌, ◌++◌, ℕ, Bool, List, take, Option, None, Some}
use Rattle.tech_rules.specs.Rules.{RuleValues}
use Rattle.design_model.specs.Netlist.{Netlist}
use Rattle.cif_text.specs.Printing as cif
use Rattle.cif_text.specs.Written as written
use Rattle.cif_text.specs.declared.command.CifCommand.TheVariants as commands
use Rattle.feed_cells.specs.Fed.{Fed}
use Rattle.cif_writer.specs.FeedHeights.{feed_heights}
use Rattle.cif_writer.specs.Symbols.{symbols_of, main_items}
use Rattle.channel_stack.specs.Stack.{Stacked}

-- the text of symbols and of what stands at the main level, behind the first line
abbrev pub text_behind : List written.WrittenSymbol → List written.MainItem → List ℕ
text_behind symbols items =
    cif.text_of (written.symbols_commands 1 symbols) ++ (cif.text_of (written.items_commands None items) ++ cif.line commands.End)

-- the whole text of a placed design, with labels or without: the symbols of its kinds and of its feeds, and then its channels and rows from the bottom up
unfoldable pub placed_text : Bool → RuleValues → Netlist → Fed → Stacked → List ℕ
placed_text labels r d fed placed = cif.text_of (written.layout_commands (symbols_of r d fed) (main_items labels r d (feed_heights fed) placed))

-- a file that is told holds what it was told to hold before, or a front of a text
abbrev pub HoldsFront : List ℕ → Option (List ℕ) → Option (List ℕ) → Type 0
HoldsFront text before told = (held : List ℕ) → told ≡ Some held → (before ≡ Some held) ⊎ ((k : ℕ) × (held ≡ take k text))
