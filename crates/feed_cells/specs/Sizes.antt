-- how wide rows are, and how many nets channels have
use Rattle.std.specs.Prelude.{◌≡◌, ℕ, ◌<◌, ◌≤◌, ◌+◌, ◌^◌, List, Bool, true, false, Some, length, filter, slice_get}
use Rattle.std.specs.List.{AllByRecursion}
use Rattle.limits.specs.declared.TheConstants.{MOST_PINS}
use Rattle.design_model.specs.Netlist.{Netlist}
use Rattle.feed_cells.specs.Crossings.{is_in}
use Rattle.feed_cells.specs.Fed.{items_width}
use Rattle.feed_cells.specs.declared.fed.Item.{Item}
use Rattle.feed_cells.specs.declared.net_places.NetPlace.{NetPlace}

-- rows whose widths in columns are below 2 ^ 64
abbrev pub AreNarrow : Netlist → List (List Item) → Type 0
AreNarrow d rows = AllByRecursion (λ (items : List Item). items_width d items < 2 ^ 64) rows

-- how many nets stand in a channel
abbrev pub count_in : List NetPlace → ℕ → ℕ
count_in nets channel = length (filter (λ (n : NetPlace). is_in n.crossing channel) nets)

-- numbers that stay within 200,000 when so many are added to each
abbrev pub HaveRoom : ℕ → List ℕ → Type 0
HaveRoom more counts = (k n : ℕ) → slice_get counts k ≡ Some n → n + more ≤ MOST_PINS

-- a number, and one more if this is so
abbrev pub one_more_if : Bool → ℕ → ℕ
one_more_if true n = n + 1
one_more_if false n = n
