use Rattle.std.proofs.Common.{◌≡◌, ◌<◌, ◌+◌, ◌∙◌, ℕ, List, length, get_or, ap, sym, arith}
use Rattle.std.specs.Prelude.{false, slice_index}
use Rattle.design_model.specs.declared.design.Position.{Position}
use Rattle.geom_extract.proofs.FirstPlaces.{FirstAt, first-at}
use Rattle.geom_extract.proofs.TieLists.{push-none, push-some}
use Rattle.geom_extract.proofs.cell_ties.push_ties.Goals as goal
use Rattle.geom_extract.proofs.cell_ties.push_ties.Goals.{then-first-place+in_ok-push, else-first-place}

abbrev nothing : Position
nothing = record { terminal = 0; top = false; column = 0 }

pub bounds-firsts-positions : goal.bounds-firsts-positions
bounds-firsts-positions c =
    (first-at c.args.kind.now c.items-positions.result.now c.args.firsts.now c.loop-place.place nothing c.requires.kind c.items-positions.ensures c.requires.firsts c.loop-place-test.true).within

pub overflow_add-start : goal.overflow_add-start
overflow_add-start c =
    let at : FirstAt c.items-positions.result.now c.args.firsts.now c.loop-place.place (get_or c.items-positions.result.now c.loop-place.place nothing).terminal =
    first-at c.args.kind.now c.items-positions.result.now c.args.firsts.now c.loop-place.place nothing c.requires.kind c.items-positions.ensures c.requires.firsts c.loop-place-test.true in
    let room : c.args.start + length c.args.kind.now.positions < 4294967296 = omega arith in
    let long : length c.items-positions.result.now ≡ length c.args.kind.now.positions = ap (λ (l : List Position). length l) c.items-positions.ensures in
    omega (arith, at.reads, at.least, c.loop-place-test.true)

pub overflow_cast-start : goal.overflow_cast-start
overflow_cast-start c =
    let at : FirstAt c.items-positions.result.now c.args.firsts.now c.loop-place.place (get_or c.items-positions.result.now c.loop-place.place nothing).terminal =
    first-at c.args.kind.now c.items-positions.result.now c.args.firsts.now c.loop-place.place nothing c.requires.kind c.items-positions.ensures c.requires.firsts c.loop-place-test.true in
    let long : length c.items-positions.result.now ≡ length c.args.kind.now.positions = ap (λ (l : List Position). length l) c.items-positions.ensures in
    omega (arith, at.reads, at.least, c.loop-place-test.true)

pub loop-place-preserved : goal.loop-place-preserved
loop-place-preserved c =
    let positions : List Position = c.items-positions.result.now in
    let place : ℕ = c.loop-place.place in
    let at : FirstAt positions c.args.firsts.now place (get_or positions place nothing).terminal =
    first-at c.args.kind.now positions c.args.firsts.now place nothing c.requires.kind c.items-positions.ensures c.requires.firsts c.loop-place-test.true in
    elim c.if-first-place.branch [
      | then-first-place+in_ok-push w ↦
          ap (λ (v : _). v.items) w.ties-is
          ∙ push-some c.args.ties.now.items c.loop-place.ties.items w.push.new.self.items c.args.start positions place
          (slice_index c.args.firsts.now (get_or positions place nothing).terminal) nothing c.loop-place-test.true c.loop-place.invariant at.reads w.if-first-place.true w.in_ok-push.ensures.items
      | else-first-place w ↦
          ap (λ (v : _). v.items) w.ties-is
          ∙ push-none c.args.ties.now.items c.loop-place.ties.items c.args.start positions place nothing c.loop-place-test.true c.loop-place.invariant (sym at.reads ∙ w.if-first-place.false)
    ]
