-- a design whose pins by net and by instance are tabled, and that the tables are its own: how many pins of each instance are joined with others, too, and a number that none has more of
use Rattle.std.specs.Prelude.{◌≡◌, ◌≤◌, ℕ, length, map}
use Rattle.std.specs.List.{range_with_len}
use Rattle.design_model.specs.Netlist.{IsNetlist, Netlist}
use Rattle.row_board.specs.NetPins.{AreInOrder, ArePins, ArePinsByInstance, pins_of_instance}
use Rattle.row_board.specs.Trial.{joined, marked_pins}
use Rattle.row_model.specs.Widths.{columns_of}
use Rattle.row_board.specs.declared.nets.Nets.TheInside.{Inside}
use Rattle.limits.specs.declared.TheConstants.{MOST_PINS}

abbrev pub design_in : Inside → Netlist
design_in a = a.design.now

pub record AreTables (a : Inside) : Type 0 where
  pub good : IsNetlist a.design.now
  pub by_net : ArePins a.design.now a.by_net
  pub by_instance : ArePinsByInstance a.design.now a.by_instance
  pub in_order : AreInOrder a.design.now a.by_instance
  pub long : length a.by_instance ≡ length a.design.now.instances
  pub widths : a.widths.items ≡ map (columns_of a.design.now) (range_with_len 0 (length a.design.now.instances))
  pub joined : a.joined.items ≡ map (marked_pins a.design.now (joined a.design.now)) (range_with_len 0 (length a.design.now.instances))
  pub most : (i : ℕ) → length (pins_of_instance a.design.now i) ≤ a.most_pins
  pub few : a.most_pins ≤ MOST_PINS
