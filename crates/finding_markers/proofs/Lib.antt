-- the boxes of places, one list behind another
pub mod BoxLaws
