-- the weights of annealing as contracts see them, and that they are small
use Rattle.row_board.specs.Weights.{Weighing, AreFew}
use Rattle.row_board.specs.declared.weights.Weights.TheInside.{Inside}

abbrev pub weighing_in : Inside → Weighing
weighing_in a = record { row_cost = a.row_cost; length_cost = a.length_cost }

abbrev pub AreWeights : Inside → Type 0
AreWeights a = AreFew (weighing_in a)
