-- the sample rules
pub mod Sample
-- the design of a text under the sample rules
pub mod Sampled
