-- more digits, and numbers above the greatest
pub mod DigitsLaws
