use Rattle.std.proofs.Common.{◌≡◌, ◌∙◌, refl, ap, sym, ◌<◌, ◌≤◌, ◌^◌, ℕ, suc, ◌+◌, ◌*◌, List, [], ◌∷◌, length, subst, arith}
use Rattle.std.proofs.Math.Nat.{mul-le-mul}
use Rattle.std.specs.List.{AllByRecursion}
use Rattle.channel_model.specs.declared.wiring.Wiring.{Wiring}
use Rattle.feed_cells.specs.Fed.{Fed, IsFed, items_width}
use Rattle.feed_cells.specs.declared.fed.Item.{Item}
use Rattle.design_model.specs.Netlist.{Netlist}
use Rattle.tech_rules.specs.Rules.{RuleValues, ValidRules}
use Rattle.channel_stack.specs.Routed.{IsRouted, IsWithin}
use Rattle.channel_stack.specs.Stack.{row_bases, stack_of, stack_top}
use Rattle.layout_laws.specs.Heights.{channel_height}
use Rattle.channel_stack.proofs.StackBounds.{grid-bounded, heights-counted, rows-narrow, top-bounded, top-small, width-bounded, width-small}
use Rattle.std_laws.proofs.Every.{every-weaker}

-- the edges of a routed design fit their numbers
pub top-fits : (r : RuleValues) (d : Netlist) (fed : Fed) (ws : List Wiring) (heights : List ℕ) → ValidRules r → IsFed d fed → IsRouted r d fed ws
    → fed.heights ≡ heights → stack_top r heights 0 ws < 2 ^ 32
top-fits r d fed ws heights valid is_fed routed same =
    subst (λ (hs : List ℕ). stack_top r hs 0 ws < 2 ^ 32) same (let low = top-small r d fed ws valid is_fed routed in omega arith)

-- and so do the columns of its rows
pub rows-fit : (r : RuleValues) (d : Netlist) (fed : Fed) (ws : List Wiring) → ValidRules r → IsFed d fed → IsRouted r d fed ws
    → AllByRecursion (λ (items : List Item). items_width d items < 2 ^ 39) fed.rows
rows-fit r d fed ws valid is_fed routed =
    every-weaker (λ (items : List Item). items_width d items ≤ fed.width) (λ (items : List Item). items_width d items < 2 ^ 39) fits fed.rows (rows-narrow d fed is_fed)
  where
    fits : (items : List Item) → items_width d items ≤ fed.width → items_width d items < 2 ^ 39
    fits items within =
        let units = width-small r d fed ws valid routed in
        let product : fed.width * 1 ≤ fed.width * r.grid.column = mul-le-mul (same-width within) (omega (arith, valid.ranges.grid.column)) in
        omega arith
      where
        same-width : items_width d items ≤ fed.width → fed.width ≤ fed.width
        same-width h = omega arith

-- the widest row is no wider than a number of columns
pub fed-narrow : (r : RuleValues) (d : Netlist) (fed : Fed) (ws : List Wiring) → ValidRules r → IsRouted r d fed ws → fed.width < 2 ^ 32
fed-narrow r d fed ws valid routed =
    let units = width-small r d fed ws valid routed in
    let product : fed.width * 1 ≤ fed.width * r.grid.column = mul-le-mul (same fed.width) (omega (arith, valid.ranges.grid.column)) in
    omega arith
  where
    same : (n : ℕ) → n ≤ n
    same n = omega arith

-- each row has a lower edge
edges-counted : (r : RuleValues) (heights : List ℕ) (base : ℕ) (ws : List Wiring) → length ws ≡ length heights + 1 → length (row_bases r heights base ws) ≡ length heights
edges-counted r [] base ws each = refl
edges-counted r (h ∷ heights) base [] each = absurd (omega (arith, each))
edges-counted r (h ∷ heights) base (w ∷ ws) each = ap suc (edges-counted r heights (base + channel_height r w + h) ws (omega (arith, each)))

pub bases-counted : (r : RuleValues) (d : Netlist) (fed : Fed) (ws : List Wiring) (heights : List ℕ) → IsFed d fed → IsRouted r d fed ws → fed.heights ≡ heights
    → length (row_bases r heights 0 ws) ≡ length fed.rows
bases-counted r d fed ws heights is_fed routed same =
    let many : length fed.heights ≡ length fed.rows = heights-counted d fed is_fed in
    edges-counted r heights 0 ws (omega (arith, routed.each, many, ap length same)) ∙ ap length (sym same) ∙ many

-- the stack of a routed design is within its bound
pub stack-within : (r : RuleValues) (d : Netlist) (fed : Fed) (ws : List Wiring) → IsFed d fed → IsRouted r d fed ws → IsWithin r d fed ws (stack_of r d fed ws)
unfolding stack_of
stack-within r d fed ws is_fed routed = record {
  width = width-bounded r d fed ws is_fed routed;
  height = top-bounded r d fed ws is_fed routed;
  grid = grid-bounded r d fed ws is_fed routed;
}
