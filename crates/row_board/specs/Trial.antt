-- how the cells that a swap shifts lie in their nets, by a table in which the two that exchange their places did so already and no other is shifted
use Rattle.std.specs.Prelude.{◌≡◌, ◌<◌, Some, ℕ, ◌+◌, ◌-◌, ◌*◌, ◌==◌, List, Bool, length, map, sum, take, drop, false, slice_get, if◌then◌else◌, nat_lt}
use Rattle.std.specs.List.{AllByRecursion}
use Rattle.design_model.specs.Netlist.{Netlist}
use Rattle.row_board.specs.Cost.{difference}
use Rattle.row_board.specs.Extreme.{across, alone_at_end, at_end, extreme_of}
use Rattle.row_board.specs.Moving.{moved_end, row_length, row_there}
use Rattle.row_board.specs.NetPins.{net_pins, pin_column, pin_with_net, pins_of_instance}
use Rattle.row_board.specs.Spot.{Spot}
use Rattle.row_board.specs.declared.extreme.Side.{Side}
use Rattle.row_board.specs.declared.extreme.Side.TheVariants.{Low, High}
use Rattle.row_board.specs.declared.net_pins.NetPin.{NetPin}
use Rattle.row_model.specs.Widths.{columns_of}
use Rattle.row_model.specs.declared.rows.Seat.{Seat}

-- the columns of a net's pins
abbrev pub net_columns : Netlist → List Spot → ℕ → List ℕ
net_columns d standings net = map (pin_column standings) (net_pins d net)

-- 1 where a pin of a net stands at the net's extreme on a side, and where it does so alone
abbrev pub ends_net : Netlist → List Spot → Side → ℕ × NetPin → ℕ
ends_net d standings side p = at_end (extreme_of side (net_columns d standings p.0)) (pin_column standings p.1)

abbrev pub ends_net_alone : Netlist → List Spot → Side → ℕ × NetPin → ℕ
ends_net_alone d standings side p = alone_at_end (extreme_of side (net_columns d standings p.0)) (pin_column standings p.1)

-- 1 where a pin's net has other pins. One that is alone in its net never makes it shorter
abbrev pub joined : Netlist → ℕ × NetPin → ℕ
joined d p = if nat_lt 1 (length (net_pins d p.0)) then 1 else 0

-- how many pins of an instance are marked, and how many of several instances
abbrev pub marked_pins : Netlist → (ℕ × NetPin → ℕ) → ℕ → ℕ
marked_pins d mark instance = sum (map mark (map (pin_with_net d) (pins_of_instance d instance)))

abbrev pub marked_in : Netlist → (ℕ × NetPin → ℕ) → List ℕ → ℕ
marked_in d mark instances = sum (map (marked_pins d mark) instances)

-- which instance stands where this one did once two have exchanged their places
abbrev pub instead : ℕ → ℕ → ℕ → ℕ
instead a b n = if n == a then b else if n == b then a else n

-- the seats of a row from one place up to another
abbrev pub seats_between : ℕ → ℕ → List Seat → List Seat
seats_between from to seats = take (to - from) (drop from seats)

-- up to which place of its row a swap with another instance of another width shifts seats
abbrev pub shift_end : List (List Seat) → Spot → Spot → ℕ
shift_end rows one other = moved_end false (one.row == other.row) one.place other.place (row_length (slice_get rows one.row))

-- the seats behind that of an instance which a swap with another shifts, and the instances that then stand in them
abbrev pub shifted_seats : List (List Seat) → Spot → Spot → List Seat
shifted_seats rows one other = seats_between (one.place + 1) (shift_end rows one other) (row_there (slice_get rows one.row))

abbrev pub instances_instead : ℕ → ℕ → List Seat → List ℕ
instances_instead a b seats = map (λ (s : Seat). instead a b s.instance) seats

-- instances are those of a design
abbrev pub AreInstances : Netlist → List ℕ → Type 0
AreInstances d instances = AllByRecursion (λ (n : ℕ). n < length d.instances) instances

-- of seats only the last may be that of one of two
pub record AreOthers (a b : ℕ) (seats : List Seat) : Type 0 where
  pub each : (k : ℕ) (s : Seat) → k + 1 < length seats → slice_get seats k ≡ Some s → instead a b s.instance ≡ s.instance

-- where an instance gives its place to another, the side that the cells behind are shifted away from: to the right where the other is wider
abbrev pub shifted_from : Bool → Side
shifted_from wider = if wider then Low else High

-- of the pins of the instances of seats behind one that gives its place to another, how many may make their nets shorter, since they are shifted away from the side on which they
-- end their nets; and how many surely make them longer, since they alone end their nets on the other side
abbrev pub shorter_in : Netlist → List Spot → ℕ → ℕ → List Seat → ℕ
shorter_in d trial a b seats = marked_in d (ends_net d trial (shifted_from (nat_lt (columns_of d a) (columns_of d b)))) (instances_instead a b seats)

abbrev pub longer_in : Netlist → List Spot → ℕ → ℕ → List Seat → ℕ
longer_in d trial a b seats = marked_in d (ends_net_alone d trial (across (shifted_from (nat_lt (columns_of d a) (columns_of d b))))) (instances_instead a b seats)

-- and so of the pins that a swap shifts
abbrev pub shorter_pins : Netlist → List (List Seat) → List Spot → ℕ → ℕ → Spot → Spot → ℕ
shorter_pins d rows trial a b one other = shorter_in d trial a b (shifted_seats rows one other)

abbrev pub longer_pins : Netlist → List (List Seat) → List Spot → ℕ → ℕ → Spot → Spot → ℕ
longer_pins d rows trial a b one other = longer_in d trial a b (shifted_seats rows one other)

-- what rows cost at least after the swap, where they cost so much with their widths after it and the nets by that table
abbrev pub least_cost : Netlist → List (List Seat) → List Spot → ℕ → ℕ → Spot → Spot → ℕ → ℕ
least_cost d rows trial a b one other cost =
    (cost + difference (columns_of d a) (columns_of d b) * (longer_pins d rows trial a b one other + longer_pins d rows trial b a other one))
    - difference (columns_of d a) (columns_of d b) * (shorter_pins d rows trial a b one other + shorter_pins d rows trial b a other one)
