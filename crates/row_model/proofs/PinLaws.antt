use Rattle.std.proofs.Common.{◌≡◌, ◌<◌, List, Option, length, ap, ◌∙◌}
use Rattle.design_model.specs.Netlist.{Netlist}
use Rattle.design_model.specs.declared.design.Pin.{Pin}
use Rattle.row_model.specs.PinColumns.{pin_columns}
use Rattle.row_model.specs.PinPlaces.{pin_column, pin_place, pin_place_at, with_columns}
use Rattle.row_model.specs.Stand.{Stand}
use Rattle.row_model.specs.StandTables.{stand_there, tabled_stand, AreStands}
use Rattle.row_model.specs.Stands.{stand_of}
use Rattle.row_model.specs.declared.cell_columns.PinColumns.{PinColumns}
use Rattle.row_model.specs.declared.rows.Seat.{Seat}

-- where a pin stands by tables of stands and of columns
pub pin-tabled : (d e t : Netlist) (rows : List (List Seat)) (stands : List (Option Stand)) (p : Pin) (stand : Option Stand) (columns : PinColumns) → e ≡ d → t ≡ d → AreStands d rows stands
    → p.instance < length d.instances → stand ≡ tabled_stand stands p.instance → columns ≡ pin_columns t p → with_columns e stand p columns ≡ pin_place d rows p
unfolding pin_place_at pin_column
pin-tabled d e t rows stands p stand columns design table are within is_stand is_columns =
    ap (λ (n : Netlist). with_columns n stand p columns) design
    ∙ ap (λ (s : Option Stand). with_columns d s p columns) (is_stand ∙ ap stand_there (are.each p.instance within))
    ∙ ap (with_columns d (stand_of d rows p.instance) p) (is_columns ∙ ap (λ (n : Netlist). pin_columns n p) table)
