-- a schedule of annealing as contracts see it, and that its values are in their ranges
use Rattle.anneal_int.specs.Schedule.{Annealing, IsSchedule}
use Rattle.anneal_int.specs.declared.schedule.Schedule.TheInside.{Inside}

abbrev pub annealing_in : Inside → Annealing
annealing_in a = record { temperature = a.temperature; stages = a.stages; moves = a.moves; weights = a.weights }

abbrev pub IsValid : Inside → Type 0
IsValid a = IsSchedule (annealing_in a)
