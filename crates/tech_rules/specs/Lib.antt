-- the ranges of the keys
pub mod Ranges
-- the values of rules, and what makes them valid
pub mod Rules
pub mod RulesView
-- lengths, and what rectangles have to do with each other
pub mod Lengths
-- widths, and cells in rows, of a layout
pub mod Wide
pub mod InRows
-- the rules file: its keys, what stands at them, and the rules of its bytes
pub mod Keys
pub mod Document
pub mod StatedView
pub mod Sections
pub mod RulesOf
