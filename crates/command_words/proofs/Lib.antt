-- what `clap` makes of the words of a command
pub mod Arguments
-- the style that words give
pub mod StyleLaws
-- lengths that digits write
pub mod LengthLaws
