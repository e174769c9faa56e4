-- a walk as contracts see it: its web, start, classes and queue, and the rectangles that are left to it
use Rattle.std.specs.Prelude.{◌<◌, length}
use Rattle.geom_extract.specs.Walks.{IsRest, Walking}
use Rattle.geom_extract.specs.declared.walk.Walk.TheInside.{Inside}

abbrev pub walking_in : Inside → Walking
walking_in a = record { web = a.web.now; start = a.start; classes = a.classes.items; queue = a.queue.items }

-- what the structure of a walk keeps
pub record IsWalking (a : Inside) : Type 0 where
  pub rest : IsRest a.web.now a.classes.items a.set
  pub start : a.start < length a.web.now.asks
