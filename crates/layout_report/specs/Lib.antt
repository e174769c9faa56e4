-- what is told of a layout that was made
pub mod SummaryText
-- the random words of a seed, and the design that is made from it
pub mod Words
pub mod MadeText
