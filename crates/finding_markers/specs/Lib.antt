-- the places of a finding
pub mod Places
-- the parts of a report database that are the same for all findings
pub mod Parts
-- the text of a report database
pub mod Markers
