-- the definitions of a text
pub mod Definitions
-- the definitions, each behind those that it calls
pub mod Defining
-- the level whose content is the layout
pub mod Tops
-- cells by their labels
pub mod Naming
-- the layout of a text whose cells are told by labels
pub mod Labelled
-- the layout as which a text reads by its labels
pub mod ReadsByLabels
