use Rattle.std.proofs.Common.{◌≡◌, ◌<◌, ℕ, List, Bool, true, false, not, Option, Some, None, refl, sym, ◌∙◌, subst}
use Rattle.std.specs.List.{slice_index}
use Rattle.design_model.specs.Netlist.{Netlist, IsNetlist}
use Rattle.feed_cells.specs.Fed.{Fed, cells_in}
use Rattle.feed_cells.specs.declared.fed.Item.{Item}
use Rattle.pin_assign.proofs.Sources.{Source, source_net}
use Rattle.pin_assign.proofs.EntryForms.{EntryIn}
use Rattle.pin_assign.proofs.TablePlaces.{HasOver, TablePlace, StandsAt, entry_at, row_beside}
use Rattle.pin_assign.specs.Tables.{padded, row_entries, table_of}
use Rattle.pin_assign.proofs.CauseLaws.{cause-once, entry-from}
use Rattle.pin_assign.proofs.TableLaws.{edge-cause, edge-effect}

-- an entry of a table is one of the row beside the channel
entry-beside : (d : Netlist) (fed : Fed) (channel : ℕ) (place : TablePlace) → entry_at (table_of d fed channel) place
    ≡ slice_index (padded fed.width (row_entries d (cells_in fed.rows) (not place.upper) channel (row_beside fed.rows channel place.upper))) place.column
unfolding table_of
entry-beside d fed channel place = by place.upper
  where
    by : (upper : Bool) → entry_at (table_of d fed channel) (record { upper = upper; column = place.column })
        ≡ slice_index (padded fed.width (row_entries d (cells_in fed.rows) (not upper) channel (row_beside fed.rows channel upper))) place.column
    by true = refl
    by false = refl

-- what stands at a place of a table with a net
pub record PlaceCause (d : Netlist) (fed : Fed) (channel : ℕ) (place : TablePlace) (net : ℕ) : Type 0 where
  pub cause : Source
  pub stands : StandsAt d fed channel cause place
  pub of_net : source_net cause ≡ net

-- where a table has a net, a cause of the net stands
pub place-cause : (d : Netlist) (fed : Fed) (channel : ℕ) (place : TablePlace) (net : ℕ) → 0 < net → entry_at (table_of d fed channel) place ≡ net
    → PlaceCause d fed channel place net
place-cause d fed channel place net some is =
    by (row_beside fed.rows channel place.upper) refl
    (edge-cause d (cells_in fed.rows) (not place.upper) channel fed.width (row_beside fed.rows channel place.upper) place.column net some (sym (entry-beside d fed channel place) ∙ is))
  where
    by : (o : Option (List Item)) → row_beside fed.rows channel place.upper ≡ o → EntryIn d (cells_in fed.rows) (not place.upper) channel o place.column net
        → PlaceCause d fed channel place net
    by None at e = absurd e
    by (Some items) at e = record {
      cause = e.cause;
      stands = record { over = subst (λ (o : Option (List Item)). HasOver d (not place.upper) e.cause o place.column) (sym at) e.stands; entering = e.entering };
      of_net = e.of_net;
    }

-- where a cause stands, a table has its net
pub place-effect : (d : Netlist) → IsNetlist d → (fed : Fed) (channel : ℕ) (place : TablePlace) (cause : Source) → StandsAt d fed channel cause place
    → entry_at (table_of d fed channel) place ≡ source_net cause
place-effect d good fed channel place cause h =
    entry-beside d fed channel place
    ∙ edge-effect d (cells_in fed.rows) (not place.upper) channel fed.width good (row_beside fed.rows channel place.upper) place.column (source_net cause)
    (entering (row_beside fed.rows channel place.upper) h.over)
  where
    entering : (o : Option (List Item)) → HasOver d (not place.upper) cause o place.column
        → EntryIn d (cells_in fed.rows) (not place.upper) channel o place.column (source_net cause)
    entering None over = absurd over
    entering (Some items) over = entry-from d (cells_in fed.rows) (not place.upper) channel cause items 0 place.column over h.entering

-- at one place of a table one cause stands
pub place-once : (d : Netlist) → IsNetlist d → (fed : Fed) (channel : ℕ) (place : TablePlace) (a b : Source) → StandsAt d fed channel a place → StandsAt d fed channel b place → a ≡ b
place-once d good fed channel place a b first second = by (row_beside fed.rows channel place.upper) first.over second.over
  where
    by : (o : Option (List Item)) → HasOver d (not place.upper) a o place.column → HasOver d (not place.upper) b o place.column → a ≡ b
    by None one other = absurd one
    by (Some items) one other = cause-once d good (not place.upper) a b items 0 place.column one other
