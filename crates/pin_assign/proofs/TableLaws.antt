use Rattle.std.proofs.Common.{◌≡◌, ◌<◌, ℕ, ◌-◌, List, length, replicate, get_or, Bool, true, false, Option, Some, None, refl, sym, ◌∙◌, inl, inr, arith}
use Rattle.std.proofs.lemmas.Bool.{cases_lt}
use Rattle.std.proofs.lemmas.List.{get_or-append_right, get_or-replicate, get_or_append_left, get_or_past, length-replicate}
use Rattle.std.specs.List.{slice_get, slice_index}
use Rattle.design_model.specs.Netlist.{Netlist, IsNetlist}
use Rattle.row_model.specs.declared.rows.Seat.{Seat}
use Rattle.feed_cells.specs.Fed.{Fed, cells_in}
use Rattle.feed_cells.specs.declared.fed.Item.{Item}
use Rattle.pin_assign.proofs.EntryForms.{EntryIn}
use Rattle.pin_assign.specs.Tables.{padded, row_below, row_entries, table_of}
use Rattle.pin_assign.proofs.EntryLaws.{row-cause, row-effect}

-- the padding has no net
padding : (n i : ℕ) → get_or (replicate {A = ℕ} n 0) i 0 ≡ 0
padding n i =
    elim (cases_lt i n) [
      | inl within ↦ get_or-replicate n i 0 0 within
      | inr past ↦ get_or_past (replicate n 0) i 0 (omega (arith, length-replicate {A = ℕ} n 0))
    ]

-- a net among padded entries is one of the entries
pub padded-is : (width : ℕ) (entries : List ℕ) (column net : ℕ) → 0 < net → slice_index (padded width entries) column ≡ net → slice_index entries column ≡ net
padded-is width entries column net some is =
    elim (cases_lt column (length entries)) [
      | inl within ↦ sym (get_or_append_left entries (replicate (width - length entries) 0) 0 column within) ∙ is
      | inr past ↦
          absurd (omega (
            arith,
            padding (width - length entries) (column - length entries),
            sym (get_or-append_right entries (replicate (width - length entries) 0) (length entries) column 0 refl past) ∙ is,
          ))
    ]

-- an entry stands at its place among padded ones
pub padded-from : (width : ℕ) (entries : List ℕ) (column net : ℕ) → column < length entries → slice_index entries column ≡ net → slice_index (padded width entries) column ≡ net
padded-from width entries column net within is = get_or_append_left entries (replicate (width - length entries) 0) 0 column within ∙ is

module _ (d : Netlist) (rows : List (List Seat)) (top : Bool) (channel width : ℕ) where
  -- each net along an edge of a row, if there is one, has a cause in its column
  pub edge-cause : (row : Option (List Item)) (column net : ℕ) → 0 < net → slice_index (padded width (row_entries d rows top channel row)) column ≡ net
      → EntryIn d rows top channel row column net
  edge-cause None column net some is = absurd (omega (arith, padding (width - 0) column))
  edge-cause (Some items) column net some is =
      row-cause d rows top channel items 0 column column net (omega arith) some (padded-is width (row_entries d rows top channel (Some items)) column net some is)

  -- and each cause leaves its net in its column
  pub edge-effect : IsNetlist d → (row : Option (List Item)) (column net : ℕ) → EntryIn d rows top channel row column net
      → slice_index (padded width (row_entries d rows top channel row)) column ≡ net
  edge-effect good None column net h = absurd h
  edge-effect good (Some items) column net h =
      let e = row-effect d rows top channel good h.cause items 0 column h.stands h.entering in
      let same : e.column ≡ column = omega (arith, e.place) in
      padded-from width (row_entries d rows top channel (Some items)) column net (rw (sym same) e.within) (rw (sym same) (e.there ∙ h.of_net))

-- a net in the upper list of a channel's table has its cause at the lower edge of the row above, and each cause there leaves its net
pub top-cause : (d : Netlist) (fed : Fed) (channel column net : ℕ) → 0 < net → slice_index (table_of d fed channel).top column ≡ net
    → EntryIn d (cells_in fed.rows) false channel (slice_get fed.rows channel) column net
unfolding table_of
top-cause d fed channel column net some is = edge-cause d (cells_in fed.rows) false channel fed.width (slice_get fed.rows channel) column net some is

pub top-effect : (d : Netlist) → IsNetlist d → (fed : Fed) (channel column net : ℕ) → EntryIn d (cells_in fed.rows) false channel (slice_get fed.rows channel) column net
    → slice_index (table_of d fed channel).top column ≡ net
unfolding table_of
top-effect d good fed channel column net h = edge-effect d (cells_in fed.rows) false channel fed.width good (slice_get fed.rows channel) column net h

-- a net in its lower list has its cause at the upper edge of the row below, and each cause there leaves its net
pub bottom-cause : (d : Netlist) (fed : Fed) (channel column net : ℕ) → 0 < net → slice_index (table_of d fed channel).bottom column ≡ net
    → EntryIn d (cells_in fed.rows) true channel (row_below fed.rows channel) column net
unfolding table_of
bottom-cause d fed channel column net some is = edge-cause d (cells_in fed.rows) true channel fed.width (row_below fed.rows channel) column net some is

pub bottom-effect : (d : Netlist) → IsNetlist d → (fed : Fed) (channel column net : ℕ) → EntryIn d (cells_in fed.rows) true channel (row_below fed.rows channel) column net
    → slice_index (table_of d fed channel).bottom column ≡ net
unfolding table_of
bottom-effect d good fed channel column net h = edge-effect d (cells_in fed.rows) true channel fed.width good (row_below fed.rows channel) column net h
