-- texts that are put to a file that was empty
pub mod BegunLaws
-- the text of commands, one part after another
pub mod Lines
-- drawings lie within reach
pub mod DrawingReach
-- the text of a placed design, channel behind row
pub mod LayoutLines
-- symbols and their drawings
pub mod SymbolDrawings
-- the drawings of symbols lie within reach
pub mod SymbolReach
-- boxes that are whole in centimicrons
pub mod WholeBoxes
-- symbols that can be written
pub mod WritableSymbols
-- rectangles of wirings that can be written
pub mod WritableWires
-- the heights of rows in which feeds stand
pub mod HeightLaws
-- the items of rows with feeds
pub mod FedItems
-- risers that can be written
pub mod WritableRisers
-- pins and nets by their numbers
pub mod PinLaws
-- what labels are written from
pub mod LabelLaws
-- shapes at places, and their middles
pub mod NearMiddles
-- labels that can be written
pub mod WritableLabels
-- what stands at the main level can be written
pub mod WritableItems
-- the layout of a routed design can be written
pub mod Writable
-- the symbols of kinds and feeds are found
pub mod FoundSymbols
-- what is written is the layout that a stack is
pub mod WrittenStack
