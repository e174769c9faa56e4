use Rattle.std.proofs.Common.{◌≡◌, refl, sym, ap, ◌∙◌, ℕ, zero, suc, ◌+◌, ◌<◌, List, [], ◌∷◌, length, Some, arith}
use Rattle.std.proofs.lemmas.Option.{slice_get-get_or, unwrap_or-slice_get}
use Rattle.std.specs.Prelude.{slice_get, slice_index, unwrap_or}
use Rattle.tech_rules.specs.Rules.{RuleValues}
use Rattle.design_model.specs.Netlist.{Netlist}
use Rattle.feed_cells.specs.declared.fed.Item.{Item}
use Rattle.channel_model.specs.declared.wiring.Wiring.{Wiring}
use Rattle.layout_laws.specs.Heights.{channel_height}
use Rattle.channel_stack.proofs.Planned.{height_of_row, no_wiring, row_heights, wiring_at}
use Rattle.channel_stack.specs.Stack.{channel_bases}

-- a channel begins a row's height above the channel before it
bases-first : (r : RuleValues) (heights : List ℕ) (base : ℕ) (w : Wiring) (ws : List Wiring) → slice_index (channel_bases r heights base (w ∷ ws)) 0 ≡ base
bases-first r [] base w ws = refl
bases-first r (h ∷ heights) base w ws = refl

pub bases-next : (r : RuleValues) (d : Netlist) (base : ℕ) (ws : List Wiring) (rows : List (List Item)) (k : ℕ) → k < length rows → suc k < length ws
    → slice_index (channel_bases r (row_heights d rows) base ws) (suc k)
    ≡ slice_index (channel_bases r (row_heights d rows) base ws) k + channel_height r (wiring_at ws k) + height_of_row d (unwrap_or (slice_get rows k) [])
bases-next r d base ws [] k row within = absurd (omega (arith, row))
bases-next r d base [] (items ∷ rows) k row within = absurd (omega (arith, within))
bases-next r d base (w ∷ []) (items ∷ rows) k row within = absurd (omega (arith, within))
bases-next r d base (w ∷ v ∷ ws) (items ∷ rows) zero row within = bases-first r (row_heights d rows) (base + channel_height r w + height_of_row d items) v ws
bases-next r d base (w ∷ v ∷ ws) (items ∷ rows) (suc k) row within =
    bases-next r d (base + channel_height r w + height_of_row d items) (v ∷ ws) rows k (omega (arith, row)) (omega (arith, within))

-- the wiring of a channel is the one at the channel's number
pub wiring-there : (ws : List Wiring) (k : ℕ) → k < length ws → slice_get ws k ≡ Some (wiring_at ws k)
wiring-there ws k within = slice_get-get_or ws k no_wiring within ∙ ap (λ (w : Wiring). Some w) (sym (unwrap_or-slice_get ws k no_wiring))
