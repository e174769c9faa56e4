-- rows of seats as contracts see them, in which no instance stands twice
use Rattle.std.specs.Prelude.{List}
use Rattle.row_model.specs.Rows.{AreRows}
use Rattle.row_model.specs.declared.rows.Seat.{Seat}
use Rattle.row_model.specs.declared.rows.Rows.TheInside.{Inside}

abbrev pub rows_of : Inside → List (List Seat)
rows_of a = a.rows

abbrev pub AreValid : Inside → Type 0
AreValid a = AreRows (rows_of a)
