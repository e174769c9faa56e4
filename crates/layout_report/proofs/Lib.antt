-- the random words of a seed
pub mod WordLaws
