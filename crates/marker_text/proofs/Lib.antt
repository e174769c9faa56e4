-- what is escaped is plain
pub mod PlainLaws
-- texts that are put to a file that was empty
pub mod BegunLaws
