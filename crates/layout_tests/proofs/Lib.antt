-- rows with mirrored seats hold what the rows held
pub mod MirrorLaws
-- plain wirings are routed
pub mod RoutedLaws
-- a worked stack
pub mod Worked
