-- a definition leaves the main level as it is
pub mod KeepLaws
-- a layout by labels is within the limits of the reader
pub mod WithinLaws
-- no label lies in nothing
pub mod NamingLaws
-- the definitions, pass after pass
pub mod OrderLaws
