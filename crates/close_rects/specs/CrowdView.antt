-- members with their rectangles as contracts see them, beside the class of each block
use Rattle.close_rects.specs.Kins.{AreKins, AreNumbered, ArePlaced, Crowded}
use Rattle.close_rects.specs.declared.crowd.Crowd.TheInside.{Inside}

abbrev pub crowded_in : Inside → Crowded
crowded_in a = record { members = a.members; items = a.indexed }

-- what the structure of a crowd keeps
pub record IsCrowd (a : Inside) : Type 0 where
  pub placed : ArePlaced a.members a.indexed
  pub numbered : AreNumbered a.members a.indexed
  pub known : AreKins a.members a.indexed a.kins.items
