-- numbered rectangles
pub mod Items
-- bounds round blocks of them, and the first that meets a window
pub mod Blocks
-- taking out of a set of rectangles
pub mod RectSets
-- pairs of close rectangles, and those that a scan has still to give
pub mod ClosePairs
pub mod Rests
pub mod ScanView
-- members of classes that are too close, and how they are looked for
pub mod Crowds
pub mod Kins
pub mod CrowdView
-- planes so far apart that rectangles of different planes neither meet nor are close
pub mod Planes
