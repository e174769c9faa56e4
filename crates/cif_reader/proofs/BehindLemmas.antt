use Rattle.cif_text.specs.declared.command.CifCommand.TheVariants as commands
use Rattle.cif_reader.specs.declared.fault.ExpandKind.TheVariants as kinds
use Rattle.std.proofs.Common.{◌≡◌, refl, ap, ◌∙◌, ℕ, ◌≤◌, List, [], ◌++◌, length, length-append, true, false, Option, Some, None, Result, Ok, Err, arith}
use Rattle.std.specs.Prelude.{max, IsOkAnd}
use Rattle.cif_text.specs.declared.command.CifCommand.{CifCommand}
use Rattle.geom_core.specs.declared.layout.Cell.{Cell}
use Rattle.geom_core.specs.declared.layout.Shape.{Shape}
use Rattle.cif_text.specs.Meaning.{name_behind, layer_behind, waiting_behind, cells_by, with_main, with_inside}
use Rattle.cif_text.specs.Symbols.{Symbol, Definition, Main, State, symbol_of}
use Rattle.cif_reader.specs.declared.refusal.ExpandStop.{ExpandStop}
use Rattle.cif_reader.specs.declared.inside.Open.{Open}
use Rattle.cif_reader.specs.declared.level.Pen.{Pen}
use Rattle.cif_reader.specs.declared.table.Kept.{Kept}
use Rattle.cif_reader.specs.declared.outside.Main.{Main as MainKept}
use Rattle.cif_reader.specs.declared.standing.Standing.{Standing}
use Rattle.cif_reader.specs.Behind.{seen, IsStanding, IsBehind, IsFinished, IsOpened}
use Rattle.cif_reader.specs.Expansion.{depth_by, advance, at_first}
use Rattle.cif_reader.specs.Growing.{Grows}
use Rattle.cif_reader.specs.Levels.{is_drawing, given, named, definition_given, main_given}
use Rattle.cif_reader.specs.Limits.{most_shapes}
use Rattle.cif_reader.specs.Refusals.{Takes}
use Rattle.cif_reader.specs.Standing.{definition_seen, main_seen, IsOpen, IsInsideBehind, IsOutsideBehind}
use Rattle.cif_reader.specs.Table.{items_drawn}
use Rattle.cif_reader.specs.Tabled.{Tabled, IsPlaceOf}
use Rattle.cif_reader.proofs.LevelLaws.{progress_at, advance-inside, advance-outside, advance-start, advance-finish}
use Rattle.cif_reader.proofs.RefusalLemmas.{takes-next}
use Rattle.cif_reader.proofs.WithinLaws.{given-fit}
use Rattle.std_laws.proofs.Options.{some-is}

pub first-is : (s : Standing) → s.main.shapes.items ≡ [] → s.definition ≡ None → IsStanding s
first-is s shapes definition = record { few = rw shapes (omega arith); definition_is = rw definition tt }

-- the state without the definition that is open
abbrev main_of : Standing → State
main_of s = record { main = main_seen s.main; symbols = s.table.symbols; inside = None }

seen-inside : (s : Standing) (d : Open) → s.definition ≡ Some d
    → seen s ≡ progress_at (with_inside (main_of s) (definition_seen s.table.symbols d)) s.table.depths d.kept.depth
unfolding seen
seen-inside s d is = rw is refl

seen-outside : (s : Standing) → s.definition ≡ None → seen s ≡ progress_at (main_of s) s.table.depths s.main.depth
unfolding seen
seen-outside s is = rw is refl

-- what stands before the first command
pub first-seen : (s : Standing) → s.main.cells.items ≡ [] → s.main.shapes.items ≡ [] → s.main.pen.scale.a ≡ 1 → s.main.pen.scale.b ≡ 1 → s.main.pen.layer ≡ None
    → s.main.waiting ≡ None → s.main.depth ≡ 1 → s.table ≡ record { symbols = []; depths = [] } → s.definition ≡ None → seen s ≡ at_first
first-seen s cells shapes a b layer waiting depth table definition =
    seen-outside s definition ∙ rw (cells, shapes, a, b, layer, waiting, depth, table) refl

few-inside : (symbols : List Symbol) (d : Open) → IsOpen symbols d → length (definition_seen symbols d).level.shapes ≤ most_shapes
few-inside symbols d h =
    let count : d.kept.count ≡ length (items_drawn symbols d.kept.items.items) = h.count in
    let few : d.kept.count ≤ most_shapes = h.few in omega arith

-- a command inside the definition that is open
pub inside-behind : (old : Standing) (d e : Open) (drawing : CifCommand) (result : Result (Unit {0}) ExpandStop) → IsStanding old → old.definition ≡ Some d
    → is_drawing drawing ≡ true
    → Takes result (definition_given old.table.symbols old.table.depths (definition_seen old.table.symbols d) drawing)
    (IsInsideBehind old.table.symbols d e)
    → Takes result (advance (seen old) drawing) (IsBehind (record old { definition = Some e }) true)
inside-behind old d e drawing result is there draws taken =
    let symbols : List Symbol = old.table.symbols in
    let depths : List ℕ = old.table.depths in
    let given = definition_given symbols depths (definition_seen symbols d) drawing in
    rw (seen-inside old d there, advance-inside (main_of old) depths d.kept.depth (definition_seen symbols d) drawing draws)
    (takes-next result given (λ r. progress_at (with_inside (main_of old) r.0) depths (max d.kept.depth r.1)) (IsInsideBehind symbols d e)
    (IsBehind (record old { definition = Some e }) true)
    (λ r same h. record {
      is_seen = seen-inside (record old { definition = Some e }) e refl
          ∙ ap (λ (x : Definition). progress_at (with_inside (main_of old) x) depths e.kept.depth) h.seen
          ∙ ap (λ (n : ℕ). progress_at (with_inside (main_of old) r.0) depths n) h.depth_is;
      is = record { few = is.few; definition_is = h.is };
      is_open = refl;
    }) taken)

-- a command of the main level
pub outside-behind : (old : Standing) (main : MainKept) (drawing : CifCommand) (result : Result (Unit {0}) ExpandStop) → IsStanding old → old.definition ≡ None
    → is_drawing drawing ≡ true
    → Takes result (main_given old.table.symbols old.table.depths (main_seen old.main) drawing) (IsOutsideBehind old.main main)
    → Takes result (advance (seen old) drawing) (IsBehind (record old { main = main }) false)
outside-behind old main drawing result is there draws taken =
    let depths : List ℕ = old.table.depths in
    let given = main_given old.table.symbols depths (main_seen old.main) drawing in
    rw (seen-outside old there, advance-outside (main_of old) depths old.main.depth drawing draws)
    (takes-next result given (λ r. progress_at (with_main (main_of old) r.0) depths (max old.main.depth r.1)) (IsOutsideBehind old.main main)
    (IsBehind (record old { main = main }) false)
    (λ r same h. record {
      is_seen = seen-outside (record old { main = main }) there
          ∙ ap (λ (x : Main). progress_at (with_main (main_of old) x) depths main.depth) h.seen
          ∙ ap (λ (n : ℕ). progress_at (with_main (main_of old) r.0) depths n) h.depth_is;
      is = record { few = h.few; definition_is = is.definition_is };
      is_open = rw there refl;
    }) taken)

-- the start of a definition
pub start-twice : (old : Standing) (n a b place : ℕ) → IsStanding old → old.definition ≡ None → IsPlaceOf n old.table place
    → advance (seen old) (commands.Start n a b) ≡ Err (kinds.Twice n)
start-twice old n a b place is there at =
    rw (seen-outside old there, advance-start (main_of old) old.table.depths old.main.depth n a b is.few, at.symbol) refl

opened-kept : (symbols : List Symbol) (n a b : ℕ) (d : Open) → IsOpened n a b d → IsOpen symbols d
unfolding items_drawn
opened-kept symbols n a b d h = record {
  items = rw h.items tt;
  count = rw (h.count, h.items) refl;
  few = rw h.count (omega arith);
  near = rw h.items tt;
  around = rw (h.bounds, h.items) refl;
  reach = rw h.bounds (λ x is. cc);
  deep = rw h.depth (omega arith);
}

pub start-behind : (old : Standing) (n a b : ℕ) (d : Open) → IsStanding old → old.definition ≡ None
    → symbol_of n old.table.symbols ≡ None → IsOpened n a b d
    → IsOkAnd (advance (seen old) (commands.Start n a b)) (IsBehind (record old { main = record old.main { waiting = None }; definition = Some d }) true)
unfolding items_drawn
start-behind old n a b d is there none h =
    let new : Standing = record old { main = record old.main { waiting = None }; definition = Some d } in
    rw (seen-outside old there, advance-start (main_of old) old.table.depths old.main.depth n a b is.few, none)
    (record {
      is_seen = seen-inside new d refl ∙ rw (h.number, h.name, h.items, h.a_is, h.b_is, h.layer, h.depth) refl;
      is = record { few = is.few; definition_is = opened-kept old.table.symbols n a b d h };
      is_open = refl;
    })

-- the end of a definition
pub finish-behind : (old new : Standing) (d : Open) → IsStanding old → old.definition ≡ Some d → IsFinished old new d
    → IsOkAnd (advance (seen old) commands.Finish) (IsBehind new false)
finish-behind old new d is there h =
    let symbols : List Symbol = old.table.symbols in
    let depths : List ℕ = old.table.depths in
    let open_is : IsOpen symbols d = some-is (IsOpen symbols) old.definition d is.definition_is there in
    rw (seen-inside old d there, advance-finish (main_of old) depths d.kept.depth (definition_seen symbols d) (few-inside symbols d open_is))
    (record {
      is_seen = seen-outside new h.outside ∙ rw (h.table_is, h.main_is) refl;
      is = record {
        few = rw h.main_is is.few;
        definition_is = rw h.outside tt;
      };
      is_open = rw h.outside refl;
    })

-- the definition that is open, behind what a command gives it
pub inside-given : (t : Tabled) (old : Open) (kept : Kept) (name : Option (List ℕ)) (pen : Pen) (c : CifCommand) (shapes : List Shape) (depth : ℕ) → IsOpen t.symbols old
    → given t.symbols (definition_seen t.symbols old).level c ≡ Ok shapes → depth_by t.symbols t.depths c ≡ Ok depth → Grows t.symbols old.kept kept shapes depth
    → name ≡ name_behind kept.name c → pen ≡ record old.pen { layer = layer_behind old.pen.layer c }
    → IsOkAnd (definition_given t.symbols t.depths (definition_seen t.symbols old) c)
    (IsInsideBehind t.symbols old (record { kept = record kept { name = name }; pen = pen }))
inside-given t old kept name pen c shapes depth is shapes_are depth_is grows name_is pen_is =
    let h = grows.is in
    rw (shapes_are, depth_is) (record {
      seen = rw (name_is, pen_is, grows.number, grows.name, grows.drawn) refl;
      depth_is = grows.depth_is;
      is = record { items = h.items; count = h.count; few = h.few; near = h.near; around = h.around; reach = h.reach; deep = h.deep };
    })

-- the main level, behind what a command gives it
pub outside-given : (t : Tabled) (old new : MainKept) (c : CifCommand) (shapes : List Shape) (cells : List Cell) (depth : ℕ)
    → given t.symbols (main_seen old).level c ≡ Ok shapes → named (cells_by t.symbols (main_seen old).level old.waiting c) ≡ Ok cells
    → depth_by t.symbols t.depths c ≡ Ok depth → new.shapes.items ≡ old.shapes.items ++ shapes → new.cells.items ≡ old.cells.items ++ cells
    → new.pen ≡ record old.pen { layer = layer_behind old.pen.layer c } → new.waiting ≡ waiting_behind old.waiting c → new.depth ≡ max old.depth depth
    → IsOkAnd (main_given t.symbols t.depths (main_seen old) c) (IsOutsideBehind old new)
outside-given t old new c shapes cells depth shapes_are cells_are depth_is all_shapes all_cells pen_is waits deeper =
    let fit = given-fit t.symbols (main_seen old).level c shapes shapes_are in
    rw (shapes_are, cells_are, depth_is) (record {
      few = rw (all_shapes, length-append) fit.few;
      seen = rw (all_shapes, all_cells, pen_is, waits) refl;
      depth_is = deeper;
    })
