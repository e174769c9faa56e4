use Rattle.std.proofs.Common.{◌≡◌, ◌≤◌, ◌++◌, ◌∷◌, ◌∙◌, [], ℕ, suc, ◌+◌, Bool, List, length, map, Option, option_map, slice_get, ap, ap₂, refl, sym, arith}
use Rattle.std.proofs.lemmas.List.{map-append}
use Rattle.std.proofs.lemmas.Option.{slice_get_past}
use Rattle.channel_model.specs.declared.wiring.Wiring.{Wiring}
use Rattle.channel_stack.specs.Layouts.{feed_drawing}
use Rattle.channel_stack.specs.Stack.{LaidOut, drawings, laid_of, stack_of}
use Rattle.cif_text.specs.Printing.{line}
use Rattle.cif_text.specs.Written as written
use Rattle.cif_text.specs.declared.command.CifCommand.TheVariants as commands
use Rattle.design_model.specs.Drawing.{drawing_of}
use Rattle.design_model.specs.Netlist.{Netlist}
use Rattle.design_model.specs.declared.design.CellKind.{CellKind}
use Rattle.feed_cells.specs.Fed.{Fed}
use Rattle.geom_core.specs.declared.layout.Shape.{Shape}
use Rattle.tech_rules.specs.Rules.{RuleValues}
use Rattle.cif_writer.specs.LayoutText.{placed_text, text_behind}
use Rattle.cif_writer.specs.FeedHeights.{feed_heights}
use Rattle.cif_writer.specs.Symbols.{feed_symbol, kind_name, laid_items, main_items, symbol_drawings, symbol_for, symbols_of, symbols_with}
use Rattle.cif_writer.proofs.LayoutLines.{layout-text}

-- the drawings of kinds
kinds-drawn : (r : RuleValues) (kinds : List CellKind)
    → map (λ (s : written.WrittenSymbol). s.shapes) (map (symbol_for r) kinds) ≡ map (drawing_of r) kinds
kinds-drawn r [] = refl
kinds-drawn r (k ∷ kinds) = ap (λ (l : List (List Shape)). drawing_of r k ∷ l) (kinds-drawn r kinds)

-- and those of feeds
feeds-drawn : (r : RuleValues) (heights : List ℕ)
    → map (λ (s : written.WrittenSymbol). s.shapes) (map (feed_symbol r) heights) ≡ map (feed_drawing r) heights
feeds-drawn r [] = refl
feeds-drawn r (h ∷ heights) = ap (λ (l : List (List Shape)). feed_drawing r h ∷ l) (feeds-drawn r heights)

-- the drawings of symbols are those of kinds, and behind them those of feeds
pub drawings-are : (r : RuleValues) (d : Netlist) (fed : Fed) → symbol_drawings r d fed ≡ map (drawing_of r) d.kinds ++ map (feed_drawing r) (feed_heights fed)
drawings-are r d fed =
    map-append (λ (s : written.WrittenSymbol). s.shapes) (map (symbol_for r) d.kinds) (map (feed_symbol r) (feed_heights fed))
    ∙ ap₂ (λ (l m : List (List Shape)). l ++ m) (kinds-drawn r d.kinds) (feeds-drawn r (feed_heights fed))

-- symbols from their drawings: those of kinds, of which so many stand before, and those behind all kinds
with-kinds : (r : RuleValues) (d : Netlist) (n : ℕ) (kinds : List CellKind) (behind : List (List Shape))
    → ((k : ℕ) → slice_get d.kinds (n + k) ≡ slice_get kinds k)
    → symbols_with d n (map (drawing_of r) kinds ++ behind) ≡ map (symbol_for r) kinds ++ symbols_with d (length kinds + n) behind
with-kinds r d n [] behind at = ap (λ (m : ℕ). symbols_with d m behind) (omega arith)
with-kinds r d n (k ∷ kinds) behind at =
    ap₂ (λ (name : Option (List ℕ)) (l : List written.WrittenSymbol). record { name = name; shapes = drawing_of r k } ∷ l)
    (ap (λ (m : ℕ). kind_name d m) (omega arith) ∙ ap (option_map (λ (c : CellKind). c.name)) (at 0))
    (with-kinds r d (suc n) kinds behind (λ j. ap (slice_get d.kinds) (omega arith) ∙ at (suc j))
    ∙ ap (λ (m : ℕ). map (symbol_for r) kinds ++ symbols_with d m behind) (omega arith))

-- drawings behind those of all kinds have no names
with-feeds : (r : RuleValues) (d : Netlist) (n : ℕ) (heights : List ℕ) → length d.kinds ≤ n → symbols_with d n (map (feed_drawing r) heights) ≡ map (feed_symbol r) heights
with-feeds r d n [] past = refl
with-feeds r d n (h ∷ heights) past =
    ap₂ (λ (o : Option CellKind) (l : List written.WrittenSymbol). record { name = option_map (λ (c : CellKind). c.name) o; shapes = feed_drawing r h } ∷ l)
    (slice_get_past d.kinds n past) (with-feeds r d (suc n) heights (omega (arith, past)))

-- the symbols of a layout are those of their drawings
pub symbols-drawn : (r : RuleValues) (d : Netlist) (fed : Fed) → symbols_with d 0 (symbol_drawings r d fed) ≡ symbols_of r d fed
symbols-drawn r d fed =
    ap (symbols_with d 0) (drawings-are r d fed)
    ∙ with-kinds r d 0 d.kinds (map (feed_drawing r) (feed_heights fed)) (λ k. ap (slice_get d.kinds) (omega arith))
    ∙ ap (λ (l : List written.WrittenSymbol). map (symbol_for r) d.kinds ++ l) (with-feeds r d (length d.kinds + 0) (feed_heights fed) (omega arith))

-- the whole text of a stack, by the drawings of its symbols, the heights of its feeds, and where its channels and rows lie
pub whole-text : (labels : Bool) (r : RuleValues) (d : Netlist) (fed : Fed) (ws : List Wiring) (drawn : List (List Shape)) (tall : List ℕ) (laid : LaidOut)
    → drawn ≡ symbol_drawings r d fed → tall ≡ feed_heights fed → laid ≡ laid_of (stack_of r d fed ws)
    → line commands.Comment ++ text_behind (symbols_with d 0 drawn) (laid_items labels r d tall (drawings r ws laid.channel_base) laid) ≡ placed_text labels r d fed (stack_of r d fed ws)
unfolding placed_text stack_of
whole-text labels r d fed ws drawn tall laid drawn_are tall_are laid_is =
    ap₂ (λ (l : List (List Shape)) (o : LaidOut). line commands.Comment ++ text_behind (symbols_with d 0 l) (laid_items labels r d tall (drawings r ws o.channel_base) o)) drawn_are laid_is
    ∙ ap₂ (λ (l : List written.WrittenSymbol) (hs : List ℕ). line commands.Comment ++ text_behind l (main_items labels r d hs (stack_of r d fed ws))) (symbols-drawn r d fed) tall_are
    ∙ sym (layout-text (symbols_of r d fed) (main_items labels r d (feed_heights fed) (stack_of r d fed ws)))
