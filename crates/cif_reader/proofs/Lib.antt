-- rectangles at a scale, and the first of their sides that is too far
pub mod RectLaws
-- points at a scale, and the blocks between them
pub mod PolygonLaws
-- whole texts, and the layout or the refusal of each
pub mod Samples
-- what commands give is what they mean
pub mod AgreementLaws
-- a layout that commands give is within the limits
pub mod WithinLaws
-- what a command gives its level is what the expansion says
pub mod LevelLaws
-- numbers at a scale
pub mod ScaleLemmas
-- tables of symbols
pub mod TableLemmas
-- tables as contracts see them
pub mod TabledLemmas
-- the place of a symbol
pub mod PlaceLemmas
-- rectangles around shapes
pub mod BoundLemmas
-- calls of symbols of a table
pub mod CallLemmas
-- refusals that are handed on
pub mod RefusalLemmas
-- symbols that draw more
pub mod GrowingLemmas
-- what stands behind a command, as the program keeps it
pub mod BehindLemmas
-- all commands, one after another
pub mod ExpandLemmas
-- the places of symbols, when one more is entered
pub mod PlacesLaws
-- it is what they mean, within the limits
pub mod Agreement
-- the main level at another scale, and another name that waits
pub mod ExpanderLaws
