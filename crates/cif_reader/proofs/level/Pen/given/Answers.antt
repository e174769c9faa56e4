use Rattle.cif_reader.proofs.level.Pen.given.Goals as goal
use Rattle.std.proofs.Common.{rules, w64, SFits, to_z-of_z, ◌≡◌, refl, ap, sym, subst, ◌∙◌, ◌≤◌, ℕ, Ok}
use Rattle.cif_text.specs.Scales.{scaled_extent, scaled_turning, box_around}
use Rattle.cif_text.specs.Symbols.{moved_shapes}
use Rattle.cif_reader.specs.Limits.{most_shapes}
use Rattle.cif_reader.specs.Standing.{level_seen}
use Rattle.cif_reader.proofs.LevelLaws.{box-gives, wire-gives, polygon-gives, call-gives, none-gives, copied-given, none-given}
use Rattle.cif_reader.proofs.RefusalLemmas.{err-next}
use Rattle.std_laws.proofs.Integers.{read_back}

pub returns-in-Ok-clause-gives : goal.returns-in-Ok-clause-gives
returns-in-Ok-clause-gives c = λ shapes count few.
    let b = c.in-Box in
    let sides : c.sides.result ≡ box_around b.length b.width b.cx b.cy b.upright = search (rules, read_back) in
    box-gives c.args.table.now.symbols (level_seen c.args.self.now shapes) c.args.command.command.now b.length b.width b.cx b.cy b.upright c.scaled_sides-sides.result
    c.args.before _ b.is (c.scaled_sides-sides.ensures ∙ ap (scaled_extent c.args.self.now.scale.a c.args.self.now.scale.b) sides) count c.in-Ok.ensures.is

pub returns-in-Err-clause-gives : goal.returns-in-Err-clause-gives
returns-in-Err-clause-gives c = λ shapes count few.
    let b = c.in-Box in
    let sides : c.sides.result ≡ box_around b.length b.width b.cx b.cy b.upright = search (rules, read_back) in
    box-gives c.args.table.now.symbols (level_seen c.args.self.now shapes) c.args.command.command.now b.length b.width b.cx b.cy b.upright c.scaled_sides-sides.result
    c.args.before _ b.is (c.scaled_sides-sides.ensures ∙ ap (scaled_extent c.args.self.now.scale.a c.args.self.now.scale.b) sides) count c.in-Err.ensures.is

pub returns-in-Ok-called-clause-gives : goal.returns-in-Ok-called-clause-gives
returns-in-Ok-called-clause-gives c = λ shapes count few.
    let k = c.in-Call in
    let turn : c.scaled_turn-turn.result ≡ scaled_turning c.args.self.now.scale.a c.args.self.now.scale.b k.flip k.quarters k.dx k.dy = search (rules, read_back) in
    call-gives c.args.table.now.symbols (level_seen c.args.self.now shapes) c.args.command.command.now k.n k.flip k.quarters k.dx k.dy c.scaled_turn-turn.result
    c.args.before k.is turn count
    ∙ rw (c.in-Ok-called.ensures.gives, c.in-Ok-called.ensures.same) refl

pub returns-in-Ok-called-clause-is : goal.returns-in-Ok-called-clause-is
returns-in-Ok-called-clause-is c = λ shapes count.
    let k = c.in-Call in
    let turn : c.scaled_turn-turn.result ≡ scaled_turning c.args.self.now.scale.a c.args.self.now.scale.b k.flip k.quarters k.dx k.dy = search (rules, read_back) in
    let h = c.in-Ok-called.ensures in
    copied-given c.args.table.now (level_seen c.args.self.now shapes) c.args.command.command.now k.n k.flip k.quarters k.dx k.dy c.scaled_turn-turn.result
    c.args.before c.in-Ok-called.call k.is turn h.gives h.same h.place h.near

pub returns-in-Err-called-clause-gives : goal.returns-in-Err-called-clause-gives
returns-in-Err-called-clause-gives c = λ shapes count few.
    let k = c.in-Call in
    let turn : c.scaled_turn-turn.result ≡ scaled_turning c.args.self.now.scale.a c.args.self.now.scale.b k.flip k.quarters k.dx k.dy = search (rules, read_back) in
    err-next c.in-Err-called.refusal _ (λ call. Ok (moved_shapes call.1 call.0.shapes)) _
    (call-gives c.args.table.now.symbols (level_seen c.args.self.now shapes) c.args.command.command.now k.n k.flip k.quarters k.dx k.dy c.scaled_turn-turn.result
    c.args.before k.is turn count) c.in-Err-called.ensures.gives

pub returns-in_default : goal.returns-in_default
returns-in_default c = record {
  gives = λ shapes count few. none-gives c.args.table.now.symbols (level_seen c.args.self.now shapes) c.args.command.command.now c.in_default.not-Box c.in_default.not-Call c.in_default.not-Wire c.in_default.not-Polygon
      (subst (λ (n : ℕ). n ≤ most_shapes) (sym count) few);
  is = λ shapes count. none-given c.args.table.now (level_seen c.args.self.now shapes) c.args.command.command.now c.in_default.not-Box c.in_default.not-Call c.in_default.not-Wire c.in_default.not-Polygon;
}

pub returns-in-Ok-wire_shapes-clause-gives : goal.returns-in-Ok-wire_shapes-clause-gives
returns-in-Ok-wire_shapes-clause-gives c = λ shapes count few.
    let w = c.in-Wire in
    let width : SFits w64 w.width = search rules in
    wire-gives c.args.table.now.symbols (level_seen c.args.self.now shapes) c.args.command.command.now w.width w.path c.args.before w.is count
    ∙ rw (c.items.ensures, to_z-of_z width) at c.in-Ok-wire_shapes.ensures.is

pub returns-in-Err-wire_shapes-clause-gives : goal.returns-in-Err-wire_shapes-clause-gives
returns-in-Err-wire_shapes-clause-gives c = λ shapes count few.
    let w = c.in-Wire in
    let width : SFits w64 w.width = search rules in
    rw (wire-gives c.args.table.now.symbols (level_seen c.args.self.now shapes) c.args.command.command.now w.width w.path c.args.before w.is count)
    (rw (c.items.ensures, to_z-of_z width) at c.in-Err-wire_shapes.ensures.is)

pub returns-in-Ok-polygon_shapes-clause-gives : goal.returns-in-Ok-polygon_shapes-clause-gives
returns-in-Ok-polygon_shapes-clause-gives c = λ shapes count few.
    let p = c.in-Polygon in
    polygon-gives c.args.table.now.symbols (level_seen c.args.self.now shapes) c.args.command.command.now p.path c.args.before p.is count
    ∙ rw c.items-in-Polygon.ensures at c.in-Ok-polygon_shapes.ensures.is

pub returns-in-Err-polygon_shapes-clause-gives : goal.returns-in-Err-polygon_shapes-clause-gives
returns-in-Err-polygon_shapes-clause-gives c = λ shapes count few.
    let p = c.in-Polygon in
    rw (polygon-gives c.args.table.now.symbols (level_seen c.args.self.now shapes) c.args.command.command.now p.path c.args.before p.is count)
    (rw c.items-in-Polygon.ensures at c.in-Err-polygon_shapes.ensures.is)
