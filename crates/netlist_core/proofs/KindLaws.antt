use Rattle.std.proofs.Common.{◌≡◌, ℕ, zero, suc, ◌*◌, ◌/◌, ◌%◌, ◌<◌, ◌≤◌, List, [], true, false, Ok, refl, ap, sym, ◌∙◌, subst, arith}
use Rattle.std.proofs.Math.Nat.{mul-le-mul_right, mul-div-le}
use Rattle.std.proofs.lemmas.List.{length-map}
use Rattle.tech_rules.specs.Rules.{RuleValues, ValidRules}
use Rattle.yal_reader.specs.Kept.{IsKeptModule, is_standard}
use Rattle.yal_reader.specs.declared.file.Module.{Module}
use Rattle.netlist_core.specs.Cells.{grid_at, kind_at, kind_of, power_names, spots_of, terminal_in, terminal_names, terminals_of}
use Rattle.design_model.specs.Netlist.{IsKind, IsPosition}
use Rattle.design_model.specs.Room.{least_height}
use Rattle.design_model.specs.declared.design.CellKind.{CellKind}
use Rattle.design_model.specs.declared.design.Position.{Position}
use Rattle.design_model.specs.declared.design.Terminal.{Terminal}
use Rattle.netlist_core.specs.declared.outline.Outline.{Outline}
use Rattle.netlist_core.proofs.ClashLaws.{clash-free}
use Rattle.netlist_core.proofs.KindParts.{IsFaultless, IsGridded, IsMade, faultless, grid-made, kind-made}
use Rattle.netlist_core.proofs.OutlineLaws.{IsSmall, outline-small}
use Rattle.netlist_core.proofs.PositionLaws.{positions-hold, positions-reach}
use Rattle.netlist_core.proofs.TerminalLaws.{IsFree, IsNamed, free-spots, known-lines, terminal-named, terminal-spot}
use Rattle.std_laws.proofs.Every.{every-weaker, every-all}

-- whole columns, of a width that is above 0, are at least one
some-columns : (width pitch : ℕ) → 0 < width → width % pitch ≡ 0 → 2 ≤ pitch → 0 < width / pitch
some-columns width pitch some whole wide = by (width / pitch) refl
  where
    by : (n : ℕ) → width / pitch ≡ n → 0 < n
    by zero none = absurd (no (ap (λ (k : ℕ). pitch * k) none))
      where
        no : pitch * (width / pitch) ≡ pitch * 0 → ⊥
        no e = omega arith
    by (suc n) is = omega arith

few-columns : (width pitch : ℕ) → width ≤ 200000000 → 2 ≤ pitch → width / pitch ≤ 100000000
few-columns width pitch low wide = omega (arith, mul-le-mul_right (width / pitch) wide, mul-div-le width pitch)

-- the position of a free terminal, in a column of the kind, is one of the kind
good-position : (rules : RuleValues) (box : Outline) (m : Module) (ps : List Position) (p : Position)
    → IsFree (terminal_names m.lines) (power_names m.lines) p.terminal × (p.column < box.width / rules.grid.column)
    → IsPosition (kind_at m (grid_at rules box ps)) p
good-position rules box m ps p h = record {
  column = h.1;
  terminal = λ t at. free t (terminal-named (terminal_names m.lines) (power_names m.lines) p.terminal t at);
  within = subst (λ (n : ℕ). p.terminal < n) (sym (length-map (terminal_names m.lines) (terminal_in (power_names m.lines)))) h.0.within;
}
  where
    free : (t : Terminal) → IsNamed (terminal_names m.lines) (power_names m.lines) p.terminal t → t.power ≡ false
    free t named = sym named.powered ∙ h.0.free named.name named.stands

good-kind : (rules : RuleValues) (n : ℕ) (m : Module) (box : Outline) (ps : List Position) → ValidRules rules → IsKeptModule m
    → is_standard m.kind ≡ true → IsSmall box → IsGridded rules.grid.column box (spots_of m.lines) ps
    → IsFaultless rules box (spots_of m.lines) ps → IsKind (kind_at m (grid_at rules box ps))
good-kind rules n m box ps valid kept standard small grid whole = record {
  name = kept.name;
  some = some-columns box.width rules.grid.column small.wide grid.whole valid.ranges.grid.column.0;
  low = small.height;
  few = few-columns box.width rules.grid.column small.width valid.ranges.grid.column.0;
  positions = every-all (IsPosition (kind_at m (grid_at rules box ps))) ps
      (every-weaker (λ (p : Position). IsFree (terminal_names m.lines) (power_names m.lines) p.terminal × (p.column < box.width / rules.grid.column))
      (IsPosition (kind_at m (grid_at rules box ps))) (good-position rules box m ps) ps
      (positions-hold (IsFree (terminal_names m.lines) (power_names m.lines)) rules.grid.column box (spots_of m.lines) ps grid.positions
      (free-spots (terminal_names m.lines) (power_names m.lines) m.lines (known-lines m.lines))));
  apart = clash-free [] ps whole.apart;
  reached = λ k t at free.
      sym (positions-reach k rules.grid.column box (spots_of m.lines) ps grid.positions) ∙ terminal-spot m.kind m.lines standard kept.lines k t at free;
}

-- what a STANDARD module gives is a good kind
pub kind-good : (rules : RuleValues) (n : ℕ) (m : Module) (k : CellKind) → ValidRules rules → IsKeptModule m → is_standard m.kind ≡ true
    → kind_of rules (n, m) ≡ Ok k → IsKind k
kind-good rules n m k valid kept standard h =
    let made : IsMade rules n m k = kind-made rules n m k h in
    subst IsKind made.kind
    (good-kind rules n m made.box made.positions valid kept standard (outline-small m.corners made.box kept.corners made.outline)
    (grid-made rules.grid.column made.box (spots_of m.lines) made.positions made.grid)
    (faultless rules n made.box (spots_of m.lines) made.positions made.fault))

-- and it has room for two pins and the space between them
pub kind-high : (rules : RuleValues) (n : ℕ) (m : Module) (k : CellKind) → kind_of rules (n, m) ≡ Ok k
    → least_height rules ≤ k.height
kind-high rules n m k h =
    let made : IsMade rules n m k = kind-made rules n m k h in
    let whole : IsFaultless rules made.box (spots_of m.lines) made.positions = faultless rules n made.box (spots_of m.lines) made.positions made.fault in
    subst (λ (k : CellKind). least_height rules ≤ k.height) made.kind whole.high

-- a kind's terminals are those of its module
pub kind-terminals : (rules : RuleValues) (n : ℕ) (m : Module) (k : CellKind) → kind_of rules (n, m) ≡ Ok k → k.terminals ≡ terminals_of m.lines
kind-terminals rules n m k h =
    let made : IsMade rules n m k = kind-made rules n m k h in
    ap (λ (c : CellKind). c.terminals) (sym made.kind)
