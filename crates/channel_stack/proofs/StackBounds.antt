use Rattle.std.proofs.Common.{◌≡◌, ℕ, zero, suc, ◌+◌, ◌*◌, ◌<◌, ◌≤◌, max, List, [], ◌∷◌, length, map, fold, sum, Some, sym, ap, subst, ◌∙◌, refl, arith}
use Rattle.std.proofs.Math.Nat.{mul-le-mul_left, mul-le-mul_right}
use Rattle.std.proofs.lemmas.List.{length-map}
use Rattle.std.proofs.lemmas.List.FromFn.{length-range_with_len}
use Rattle.std.proofs.lemmas.List.Sums.{sum_by-cons}
use Rattle.std.proofs.lemmas.Option.{none-some, same_Some, slice_get-map, slice_get_within}
use Rattle.std.specs.List.{AllByRecursion, range_with_len}
use Rattle.std.specs.Prelude.{slice_get, option_map}
use Rattle.tech_rules.specs.Rules.{RuleValues, ValidRules}
use Rattle.design_model.specs.Netlist.{Netlist}
use Rattle.channel_model.specs.Limits.{most_tracks}
use Rattle.channel_model.specs.declared.wiring.Wiring.{Wiring}
use Rattle.feed_cells.specs.Fed.{Fed, IsFed, cells_in, fed_rows, heights_of, items_width, nets_in, row_height, seats_in}
use Rattle.feed_cells.specs.declared.fed.Item.{Item}
use Rattle.feed_cells.proofs.FedLaws.{fed-width}
use Rattle.pin_assign.proofs.FedBounds.{sum-more}
use Rattle.pin_assign.specs.Bounds.{bound_of, channels_height, channels_width, most_nets}
use Rattle.layout_laws.specs.Heights.{channel_height}
use Rattle.channel_stack.specs.Routed.{IsRouted}
use Rattle.channel_stack.specs.Stack.{channel_bases, row_bases, stack_top, most_columns, total_columns}
use Rattle.std_laws.proofs.Places.{at-place}
use Rattle.std_laws.proofs.Every.{every-from-get}
use Rattle.std_laws.proofs.Greatest.{greatest-at}
use Rattle.std_laws.proofs.Numbers.{product-more}

-- the lower edge of a stack is not above its upper one, and neither is the upper edge of its first channel
pub base-below : (r : RuleValues) (heights : List ℕ) (base : ℕ) (ws : List Wiring) → base ≤ stack_top r heights base ws
base-below r heights base [] = omega arith
base-below r [] base (w ∷ ws) = omega arith
base-below r (h ∷ heights) base (w ∷ ws) = omega (arith, base-below r heights (base + channel_height r w + h) ws)

pub channel-below : (r : RuleValues) (heights : List ℕ) (base : ℕ) (w : Wiring) (ws : List Wiring) → base + channel_height r w ≤ stack_top r heights base (w ∷ ws)
channel-below r [] base w ws = omega arith
channel-below r (h ∷ heights) base w ws = omega (arith, base-below r heights (base + channel_height r w + h) ws)

pub ruleset edge_laws = (base-below, channel-below)

-- no lower edge of a channel or of a row is above the stack's upper edge
channels-below : (r : RuleValues) (heights : List ℕ) (top base : ℕ) (ws : List Wiring) → stack_top r heights base ws ≤ top
    → AllByRecursion (λ (b : ℕ). b ≤ top) (channel_bases r heights base ws)
channels-below r heights top base [] low = tt
channels-below r [] top base (w ∷ ws) low = (omega arith, tt)
channels-below r (h ∷ heights) top base (w ∷ ws) low =
    (omega (arith, base-below r (h ∷ heights) base (w ∷ ws)), channels-below r heights top (base + channel_height r w + h) ws low)

rows-below : (r : RuleValues) (heights : List ℕ) (top base : ℕ) (ws : List Wiring) → stack_top r heights base ws ≤ top
    → AllByRecursion (λ (b : ℕ). b ≤ top) (row_bases r heights base ws)
rows-below r [] top base ws low = tt
rows-below r (h ∷ heights) top base [] low = tt
rows-below r (h ∷ heights) top base (w ∷ ws) low =
    (omega (arith, channel-below r (h ∷ heights) base w ws), rows-below r heights top (base + channel_height r w + h) ws low)

-- one channel more
heights-more : (r : RuleValues) (n : ℕ) (ns : List ℕ) → channels_height r (n ∷ ns) ≡ (most_tracks n + 1) * r.grid.track + channels_height r ns
heights-more r n ns = sum_by-cons (λ (x : ℕ). x) ((most_tracks n + 1) * r.grid.track) (map (λ (m : ℕ). (most_tracks m + 1) * r.grid.track) ns)

channel-low : (r : RuleValues) (n : ℕ) (w : Wiring) → w.tracks ≤ most_tracks n → channel_height r w ≤ (most_tracks n + 1) * r.grid.track
channel-low r n w few = let more : w.tracks + 1 ≤ most_tracks n + 1 = omega arith in mul-le-mul_right r.grid.track more

-- a stack whose channels have no more tracks than a router may take for so many nets
top-bound : (r : RuleValues) (heights : List ℕ) (base : ℕ) (ws : List Wiring) (ns : List ℕ) → length ws ≡ length heights + 1 → length ns ≡ length heights + 1
    → ((k n : ℕ) (w : Wiring) → slice_get ws k ≡ Some w → slice_get ns k ≡ Some n → w.tracks ≤ most_tracks n)
    → stack_top r heights base ws ≤ base + (sum heights + channels_height r ns)
top-bound r heights base [] ns many each few = absurd (omega arith)
top-bound r heights base (w ∷ ws) [] many each few = absurd (omega arith)
top-bound r [] base (w ∷ ws) (n ∷ ns) many each few =
    omega (arith, heights-more r n ns, channel-low r n w (few 0 n w refl refl))
top-bound r (h ∷ heights) base (w ∷ ws) (n ∷ ns) many each few =
    let others : stack_top r heights (base + channel_height r w + h) ws ≤ base + channel_height r w + h + (sum heights + channels_height r ns) =
    top-bound r heights (base + channel_height r w + h) ws ns (omega arith) (omega arith)
    (λ (k m : ℕ) (u : Wiring) (a : slice_get ws k ≡ Some u) (b : slice_get ns k ≡ Some m). few (suc k) m u a b) in
    omega (arith, heights-more r n ns, channel-low r n w (few 0 n w refl refl), sum-more h heights)

-- the greatest of numbers that do not pass a bound does not, and no number passes the greatest
greatest-within : (bound first : ℕ) (ws : List Wiring) → first ≤ bound → AllByRecursion (λ (w : Wiring). w.columns ≤ bound) ws
    → fold max first (map (λ (w : Wiring). w.columns) ws) ≤ bound
greatest-within bound first [] low all = low
greatest-within bound first (w ∷ ws) low all = let here : w.columns ≤ bound = all.0 in greatest-within bound (max first w.columns) ws (omega arith) all.1

-- there is one number of nets for each channel
nets-counted : (d : Netlist) (fed : Fed) → IsFed d fed → length fed.nets ≡ length fed.rows + 1
unfolding fed_rows
nets-counted d fed is =
    let numbers : List ℕ = range_with_len 0 (length (cells_in fed.rows) + 1) in
    let taken : length fed.nets ≡ length (map (λ (channel : ℕ). length (nets_in d (cells_in fed.rows) channel)) numbers) =
    ap (λ (f : Fed). length f.nets) is.is in
    let mapped : length (map (λ (channel : ℕ). length (nets_in d (cells_in fed.rows) channel)) numbers) ≡ length numbers =
    length-map numbers (λ (channel : ℕ). length (nets_in d (cells_in fed.rows) channel)) in
    let counted : length numbers ≡ length (cells_in fed.rows) + 1 = length-range_with_len 0 (length (cells_in fed.rows) + 1) in
    let rows : length (cells_in fed.rows) ≡ length fed.rows = length-map fed.rows seats_in in
    omega arith

-- the heights of the rows with feeds are those of their rows, one for each
pub heights-of : (d : Netlist) (fed : Fed) → IsFed d fed → fed.heights ≡ heights_of d (cells_in fed.rows)
unfolding fed_rows
heights-of d fed is = ap (λ (f : Fed). f.heights) is.is

pub heights-counted : (d : Netlist) (fed : Fed) → IsFed d fed → length fed.heights ≡ length fed.rows
heights-counted d fed is =
    ap length (heights-of d fed is) ∙ length-map (cells_in fed.rows) (row_height d) ∙ length-map fed.rows seats_in

-- there is a row
pub some-row : (d : Netlist) (fed : Fed) → IsFed d fed → 0 < length fed.rows
some-row d fed is =
    let rows : length (cells_in fed.rows) ≡ length fed.rows = length-map fed.rows seats_in in
    let some : 0 < length (cells_in fed.rows) = is.placed.some in
    omega arith

-- each row is at most as wide as the widest
pub rows-narrow : (d : Netlist) (fed : Fed) → IsFed d fed → AllByRecursion (λ (items : List Item). items_width d items ≤ fed.width) fed.rows
rows-narrow d fed is = every-from-get (λ (items : List Item). items_width d items ≤ fed.width) fed.rows narrow
  where
    narrow : (k : ℕ) (items : List Item) → slice_get fed.rows k ≡ Some items → items_width d items ≤ fed.width
    narrow k items at =
        subst (λ (f : Fed). items_width d items ≤ f.width) (sym is.is)
        (fed-width d (cells_in fed.rows) k items (subst (λ (f : Fed). slice_get f.rows k ≡ Some items) is.is at))

-- no wiring has more columns than the bound's
columns-narrow : (r : RuleValues) (d : Netlist) (fed : Fed) (ws : List Wiring) → IsFed d fed → IsRouted r d fed ws
    → AllByRecursion (λ (w : Wiring). w.columns ≤ channels_width fed) ws
columns-narrow r d fed ws is routed = every-from-get (λ (w : Wiring). w.columns ≤ channels_width fed) ws narrow
  where
    narrow : (k : ℕ) (w : Wiring) → slice_get ws k ≡ Some w → w.columns ≤ channels_width fed
    narrow k w at =
        let inside : k < length ws = slice_get_within ws k w at in
        let each : length ws ≡ length fed.rows + 1 = routed.each in
        let counted : length fed.nets ≡ length fed.rows + 1 = nets-counted d fed is in
        let nets = at-place fed.nets k (omega arith) in
        let most : nets.0 ≤ most_nets fed.nets = greatest-at 0 fed.nets k nets.0 nets.1 in
        omega (arith, routed.columns k nets.0 w at nets.1)

columns-within : (r : RuleValues) (d : Netlist) (fed : Fed) (ws : List Wiring) → IsFed d fed → IsRouted r d fed ws → most_columns ws ≤ channels_width fed
columns-within r d fed ws is routed = greatest-within (channels_width fed) 0 ws (omega arith) (columns-narrow r d fed ws is routed)

-- what keeps the numbers of a stack's layout small: its width and height, those of its rows, and its bases
pub record IsBounded (r : RuleValues) (d : Netlist) (fed : Fed) (ws : List Wiring) : Type 0 where
  pub height : stack_top r fed.heights 0 ws * r.grid.centi ≤ 1000000000
  pub columns : most_columns ws * r.grid.column * r.grid.centi ≤ 1000000000
  pub width : fed.width * r.grid.column * r.grid.centi ≤ 1000000000
  pub rows : AllByRecursion (λ (items : List Item). items_width d items ≤ fed.width) fed.rows
  pub channel_bases : AllByRecursion (λ (base : ℕ). base ≤ stack_top r fed.heights 0 ws) (channel_bases r fed.heights 0 ws)
  pub row_bases : AllByRecursion (λ (base : ℕ). base ≤ stack_top r fed.heights 0 ws) (row_bases r fed.heights 0 ws)

-- a stack is no higher than its bound
pub top-bounded : (r : RuleValues) (d : Netlist) (fed : Fed) (ws : List Wiring) → IsFed d fed → IsRouted r d fed ws
    → stack_top r fed.heights 0 ws * r.grid.centi ≤ (bound_of r d fed).height
unfolding bound_of
top-bounded r d fed ws is routed =
    let many : length fed.heights ≡ length fed.rows = heights-counted d fed is in
    let counted : length fed.nets ≡ length fed.rows + 1 = nets-counted d fed is in
    let each : length ws ≡ length fed.rows + 1 = routed.each in
    let low : stack_top r fed.heights 0 ws ≤ sum fed.heights + channels_height r fed.nets =
    let high : stack_top r fed.heights 0 ws ≤ 0 + (sum fed.heights + channels_height r fed.nets) =
    top-bound r fed.heights 0 ws fed.nets (omega arith) (omega arith)
    (λ (k n : ℕ) (w : Wiring) (a : slice_get ws k ≡ Some w) (b : slice_get fed.nets k ≡ Some n). routed.tracks k n w a b) in
    omega arith in
    mul-le-mul_right r.grid.centi low

top-within : (r : RuleValues) (d : Netlist) (fed : Fed) (ws : List Wiring) → IsFed d fed → IsRouted r d fed ws
    → stack_top r fed.heights 0 ws * r.grid.centi ≤ 1000000000
top-within r d fed ws is routed =
    let low : stack_top r fed.heights 0 ws * r.grid.centi ≤ (bound_of r d fed).height = top-bounded r d fed ws is routed in
    let limit : (bound_of r d fed).height ≤ 1000000000 = routed.height in
    omega arith

-- nor wider
columns-bounded : (r : RuleValues) (d : Netlist) (fed : Fed) (columns : ℕ) → columns ≤ channels_width fed
    → columns * r.grid.column * r.grid.centi ≤ (bound_of r d fed).width
unfolding bound_of
columns-bounded r d fed columns narrow =
    let across : columns * r.grid.column ≤ channels_width fed * r.grid.column = mul-le-mul_right r.grid.column narrow in
    mul-le-mul_right r.grid.centi across

pub width-bounded : (r : RuleValues) (d : Netlist) (fed : Fed) (ws : List Wiring) → IsFed d fed → IsRouted r d fed ws
    → most_columns ws * r.grid.column * r.grid.centi ≤ (bound_of r d fed).width
width-bounded r d fed ws is routed = columns-bounded r d fed (most_columns ws) (columns-within r d fed ws is routed)

-- and its wirings have no more columns together
total-within : (bound : ℕ) (ws : List Wiring) → AllByRecursion (λ (w : Wiring). w.columns ≤ bound) ws → total_columns ws ≤ length ws * bound
total-within bound [] all = omega arith
total-within bound (w ∷ ws) all =
    let here : w.columns ≤ bound = all.0 in
    let more : total_columns ws ≤ length ws * bound = total-within bound ws all.1 in
    omega (arith, sum_by-cons (λ (n : ℕ). n) w.columns (map (λ (v : Wiring). v.columns) ws), product-more (length ws) bound)

pub grid-bounded : (r : RuleValues) (d : Netlist) (fed : Fed) (ws : List Wiring) → IsFed d fed → IsRouted r d fed ws → total_columns ws ≤ (bound_of r d fed).grid
unfolding bound_of
grid-bounded r d fed ws is routed =
    let each : length ws ≡ length fed.rows + 1 = routed.each in
    subst (λ (n : ℕ). total_columns ws ≤ n * channels_width fed) each (total-within (channels_width fed) ws (columns-narrow r d fed ws is routed))

-- columns of at most the bound's are narrow
width-within : (r : RuleValues) (d : Netlist) (fed : Fed) (ws : List Wiring) → IsRouted r d fed ws → (columns : ℕ)
    → columns ≤ channels_width fed → columns * r.grid.column * r.grid.centi ≤ 1000000000
width-within r d fed ws routed columns narrow =
    let low : columns * r.grid.column * r.grid.centi ≤ (bound_of r d fed).width = columns-bounded r d fed columns narrow in
    let limit : (bound_of r d fed).width ≤ 1000000000 = routed.width in
    omega arith

pub bases-within : (r : RuleValues) (d : Netlist) (fed : Fed) (ws : List Wiring) → IsFed d fed → IsRouted r d fed ws → IsBounded r d fed ws
bases-within r d fed ws is routed = record {
  height = top-within r d fed ws is routed;
  columns = width-within r d fed ws routed (most_columns ws) (columns-within r d fed ws is routed);
  width = width-within r d fed ws routed fed.width (omega arith);
  rows = rows-narrow d fed is;
  channel_bases = channels-below r fed.heights (stack_top r fed.heights 0 ws) 0 ws (omega arith);
  row_bases = rows-below r fed.heights (stack_top r fed.heights 0 ws) 0 ws (omega arith);
}

-- so many units of at least four centimicrons are few, and so are the units of a stack
units-small : (units centi : ℕ) → 4 ≤ centi → units * centi ≤ 1000000000 → units ≤ 250000000
units-small units centi fine near = let product : units * 4 ≤ units * centi = mul-le-mul_left units fine in omega arith

pub top-small : (r : RuleValues) (d : Netlist) (fed : Fed) (ws : List Wiring) → ValidRules r → IsFed d fed → IsRouted r d fed ws
    → stack_top r fed.heights 0 ws ≤ 250000000
top-small r d fed ws valid is routed = units-small (stack_top r fed.heights 0 ws) r.grid.centi valid.ranges.grid.centi.0 (top-within r d fed ws is routed)

-- a row is no wider than so many units
pub width-small : (r : RuleValues) (d : Netlist) (fed : Fed) (ws : List Wiring) → ValidRules r → IsRouted r d fed ws → fed.width * r.grid.column ≤ 250000000
width-small r d fed ws valid routed =
    units-small (fed.width * r.grid.column) r.grid.centi valid.ranges.grid.centi.0 (width-within r d fed ws routed fed.width (omega arith))

-- a row is no higher than the stack
pub row-within : (r : RuleValues) (heights : List ℕ) (base : ℕ) (ws : List Wiring) (k height : ℕ) → slice_get heights k ≡ Some height → length ws ≡ length heights + 1
    → height ≤ stack_top r heights base ws
row-within r [] base ws k height at each = absurd (none-some height at)
row-within r (h ∷ heights) base [] k height at each = absurd (omega arith)
row-within r (h ∷ heights) base (w ∷ ws) zero height at each =
    omega (arith, same_Some h height at, base-below r heights (base + channel_height r w + h) ws)
row-within r (h ∷ heights) base (w ∷ ws) (suc k) height at each = row-within r heights (base + channel_height r w + h) ws k height at (omega arith)

-- each wiring is at most as wide as the widest
pub columns-most : (first : ℕ) (ws : List Wiring) → AllByRecursion (λ (w : Wiring). w.columns ≤ fold max first (map (λ (v : Wiring). v.columns) ws)) ws
columns-most first ws = every-from-get (λ (w : Wiring). w.columns ≤ fold max first (map (λ (v : Wiring). v.columns) ws)) ws
    (λ (k : ℕ) (w : Wiring) (at : slice_get ws k ≡ Some w).
    greatest-at first (map (λ (v : Wiring). v.columns) ws) k w.columns
    (slice_get-map (λ (v : Wiring). v.columns) ws k ∙ ap (option_map (λ (v : Wiring). v.columns)) at))
