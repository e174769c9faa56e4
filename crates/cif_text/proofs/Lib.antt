-- whole texts, what each reads as, and what each means
pub mod Samples
pub mod MeaningSamples
-- fronts of lists, and the numbers that stand in a printed line
pub mod SpanLemmas
pub mod ScanLemmas
pub mod NumberLemmas
-- what a printed form reads as
pub mod FormLemmas
-- printed bytes are of ASCII
pub mod PlainLemmas
-- the printed text of commands reads as those commands
pub mod ReadBack
-- the shapes of symbols and of the main level, by the commands that draw them
pub mod BodyLaws
pub mod DrawnLaws
-- a written layout is a text, and means that layout
pub mod WrittenText
pub mod WrittenMeaning
-- what callers need: texts in parts, names, and the symbols of a written layout
pub mod TextLemmas
-- the commands of a text, one after another
pub mod ReadingLaws
-- what the steps of a call do together
pub mod MoveLaws
-- the points of a path, one after another
pub mod PathLaws
-- the commands that a text can give
pub mod SoundLemmas
-- where a number stands that is too great
pub mod PlaceLaws
-- the counts of steps and commands do not matter
pub mod FuelLaws
pub mod WrittenLayout
-- the text of a label
pub mod LabelLemmas
-- commands that can be printed
pub mod PrintableTexts
-- steps of a call as moves, one after another
pub mod Moves
-- lines that are written piece by piece
pub mod LineLemmas
