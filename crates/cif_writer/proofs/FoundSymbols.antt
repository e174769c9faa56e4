use Rattle.cif_text.specs.Written as written
use Rattle.std.proofs.Common.{◌≡◌, sym, ◌∙◌, subst, ℕ, ◌+◌, List, length, map, Some, Contains, arith, add-one}
use Rattle.std.proofs.lemmas.List.{length-map}
use Rattle.std.specs.Prelude.{slice_get}
use Rattle.cif_text.proofs.TextLemmas.{symbol_of-written}
use Rattle.cif_text.specs.Symbols.{Symbol, symbol_of}
use Rattle.cif_text.proofs.WrittenLayout.{symbol_at, symbols_from}
use Rattle.tech_rules.specs.Rules.{RuleValues}
use Rattle.design_model.specs.Netlist.{Netlist}
use Rattle.design_model.specs.declared.design.CellKind.{CellKind}
use Rattle.feed_cells.specs.Fed.{Fed}
use Rattle.cif_writer.specs.FeedHeights.{feed_heights, height_place}
use Rattle.cif_writer.specs.Symbols.{feed_number, feed_symbol, symbol_for, symbols_of}
use Rattle.cif_writer.proofs.HeightLaws.{height-placed}
use Rattle.std_laws.proofs.Places.{map-at, get-before, get-behind}

-- the symbols of a layout, numbered from 1
abbrev pub symbols_in : RuleValues → Netlist → Fed → List Symbol
symbols_in r d fed = symbols_from 1 (symbols_of r d fed)

module _ (r : RuleValues) (d : Netlist) (fed : Fed) where
  -- the symbol that stands at a place has the number behind it
  numbered : (k : ℕ) (drawn : written.WrittenSymbol) → slice_get (symbols_of r d fed) k ≡ Some drawn → symbol_of (k + 1) (symbols_in r d fed) ≡ Some (symbol_at (k + 1) drawn)
  numbered k drawn at =
      subst (λ (n : ℕ). symbol_of n (symbols_in r d fed) ≡ Some (symbol_at n drawn)) (sym (add-one k)) (symbol_of-written k (symbols_of r d fed) drawn at)

  -- the symbol of a kind has the number behind the kind's
  pub kind-found : (k : ℕ) (kind : CellKind) → slice_get d.kinds k ≡ Some kind
      → symbol_of (k + 1) (symbols_in r d fed) ≡ Some (symbol_at (k + 1) (symbol_for r kind))
  kind-found k kind at =
      numbered k (symbol_for r kind)
      (get-before (map (symbol_for r) d.kinds) (map (feed_symbol r) (feed_heights fed)) k (symbol_for r kind)
      (map-at (symbol_for r) d.kinds k kind at))

  -- the symbols of feeds stand behind those of the kinds
  pub feed-found : (height : ℕ) → Contains (feed_heights fed) height
      → symbol_of (feed_number d (feed_heights fed) height) (symbols_in r d fed) ≡ Some (symbol_at (feed_number d (feed_heights fed) height) (feed_symbol r height))
  feed-found height member =
      let place : ℕ = height_place (feed_heights fed) height in
      let number : length d.kinds + place + 1 ≡ feed_number d (feed_heights fed) height = omega arith in
      subst (λ (n : ℕ). symbol_of n (symbols_in r d fed) ≡ Some (symbol_at n (feed_symbol r height))) number
      (numbered (length d.kinds + place) (feed_symbol r height)
      (get-behind (map (symbol_for r) d.kinds) (map (feed_symbol r) (feed_heights fed)) (length d.kinds + place) place
      (let e = length-map d.kinds (symbol_for r) in omega arith)
      ∙ map-at (feed_symbol r) (feed_heights fed) place height (height-placed (feed_heights fed) height member)))
