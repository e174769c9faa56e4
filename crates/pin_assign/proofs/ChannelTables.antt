use Rattle.std.proofs.Common.{◌≡◌, ap, sym, ◌∙◌, subst, ◌<◌, ◌+◌, ℕ, List, length, Some, arith}
use Rattle.std.proofs.lemmas.List.FromFn.{length-map-range_with_len}
use Rattle.channel_model.specs.Nets.{nets_of}
use Rattle.channel_model.specs.Pins.{Pins}
use Rattle.channel_model.proofs.NetsOf.{nets-one}
use Rattle.design_model.specs.Netlist.{Netlist, IsNetlist}
use Rattle.row_model.specs.Rows.{ArePlaced}
use Rattle.row_model.specs.declared.rows.Seat.{Seat}
use Rattle.feed_cells.specs.Fed.{Fed, IsFed, cells_in, fed_rows, nets_in}
use Rattle.feed_cells.proofs.FedLaws.{fed-long}
use Rattle.pin_assign.specs.ChannelTables.{AreTablesFor}
use Rattle.pin_assign.specs.Tables.{table_of, tables_of}
use Rattle.pin_assign.proofs.ChannelLaws.{table-nets}
use Rattle.pin_assign.proofs.WidthLaws.{table-top_length}
use Rattle.std_laws.proofs.Ranges.{image-at, image-of, image-within}

module _ (d : Netlist) (good : IsNetlist d) (rows : List (List Seat)) (placed : ArePlaced d rows) where
  -- the tables of rows with feeds are for them
  rows-tables : AreTablesFor (fed_rows d rows) (tables_of d (fed_rows d rows))
  unfolding fed_rows
  rows-tables = record {
    many = length-map-range_with_len (table_of d (fed_rows d rows)) 0 (length (fed_rows d rows).rows + 1);
    wide = λ k pins at.
        ap (λ (p : Pins). length p.top) (sym (image-of (table_of d (fed_rows d rows)) (length (fed_rows d rows).rows + 1) k pins at)) ∙ table-top_length d rows k;
    nets = λ k pins at.
        let is : table_of d (fed_rows d rows) k ≡ pins = image-of (table_of d (fed_rows d rows)) (length (fed_rows d rows).rows + 1) k pins at in
        let within : k < length (fed_rows d rows).rows + 1 = image-within (table_of d (fed_rows d rows)) 0 (length (fed_rows d rows).rows + 1) k pins at in
        let long : length (fed_rows d rows).rows ≡ length rows = fed-long d rows in
        image-at (λ (c : ℕ). length (nets_in d rows c)) 0 (length rows + 1) k (omega arith)
        ∙ ap (λ (n : ℕ). Some (length (nets_in d rows n))) (let same : 0 + k ≡ k = omega arith in same)
        ∙ ap (λ (nets : List ℕ). Some (length nets)) (nets-one (table_of d (fed_rows d rows) k) (nets_in d rows k) (table-nets d good rows placed k))
        ∙ ap (λ (p : Pins). Some (length (nets_of p))) is;
  }

-- the tables of rows with their feeds
pub fed-tables : (d : Netlist) → IsNetlist d → (fed : Fed) → IsFed d fed → AreTablesFor fed (tables_of d fed)
fed-tables d good fed from = subst (λ (f : Fed). AreTablesFor f (tables_of d f)) (sym from.is) (rows-tables d good (cells_in fed.rows) from.placed)
