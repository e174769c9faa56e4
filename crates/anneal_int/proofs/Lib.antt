-- which changes are taken
pub mod JudgingLaws
-- the random words of changes
pub mod WordLaws
-- changes one by one, and stage by stage
pub mod StageLaws
-- worked numbers
pub mod Worked
