use Rattle.finding_markers.proofs.pins.append_drawn.Goals as goal
use Rattle.std.proofs.Common.{◌≡◌, ◌∙◌, ◌++◌, ◌∷◌, ℕ, List, [], ap, refl, true}
use Rattle.std.specs.Option.{option_to_list}
use Rattle.std.proofs.lemmas.List.{nil_from_length}
use Rattle.geom_core.specs.declared.layout.Shape.{Shape}
use Rattle.design_model.specs.declared.design.Position.{Position}
use Rattle.shelf_io.proofs.SoFar.{so_far-begun, so_far-done, so_far-failed, so_far-more}
use Rattle.finding_markers.specs.Markers.{boxes_text}
use Rattle.finding_markers.specs.Places.{place_at, places_drawn}
use Rattle.finding_markers.proofs.BoxLaws.{boxes-both}

-- the boxes of some positions are those of the first and those of the others
drawn-first : (t : ℕ) (ps : List Position) (ss : List Shape) (p : Position) (later : List Position) (s : Shape) (others : List Shape) → ps ≡ p ∷ later → ss ≡ s ∷ others
    → boxes_text (places_drawn t ps ss) ≡ boxes_text (option_to_list (place_at t p s)) ++ boxes_text (places_drawn t later others)
drawn-first t ps ss p later s others left rest =
    ap (λ (list : List Position). boxes_text (places_drawn t list ss)) left ∙ ap (λ (list : List Shape). boxes_text (places_drawn t (p ∷ later) list)) rest
    ∙ boxes-both (option_to_list (place_at t p s)) (places_drawn t later others)

drawn-none : (t : ℕ) (ps : List Position) (ss : List Shape) → ps ≡ [] → boxes_text (places_drawn t ps ss) ≡ []
drawn-none t ps ss is = ap (λ (list : List Position). boxes_text (places_drawn t list ss)) is

no-shapes : (t : ℕ) (ps : List Position) → boxes_text (places_drawn t ps []) ≡ []
no-shapes t [] = refl
no-shapes t (p ∷ ps) = refl

pub loop-position-init : goal.loop-position-init
loop-position-init g c = so_far-begun _ c.args.buffer.now _ _ (g.met.K.Sink.place_here c.args.out.now) (g.met.K.Sink.same_here c.args.out.now)

pub returns-in_err-append_place : goal.returns-in_err-append_place
returns-in_err-append_place g c =
    let parts = drawn-first c.args.terminal c.loop-position.left.now c.loop-position.rest.now c.in-Some.position.now c.in-Some.later.now c.in-Some-split_first.shape.now c.in-Some-split_first.others.now
    c.in-Some.ensures.cases.0 c.in-Some-split_first.ensures.cases.0 in
    so_far-failed c.from_residual.result _ (g.met.K.Sink.place_then _ _ _) (g.met.K.Sink.same_then _ _ _) c.from_residual.ensures.0 c.loop-position.invariant parts
    (rw c.place_at.ensures at c.in_err-append_place.ensures)

pub loop-position-preserved : goal.loop-position-preserved
loop-position-preserved g c =
    let parts = drawn-first c.args.terminal c.loop-position.left.now c.loop-position.rest.now c.in-Some.position.now c.in-Some.later.now c.in-Some-split_first.shape.now c.in-Some-split_first.others.now
    c.in-Some.ensures.cases.0 c.in-Some-split_first.ensures.cases.0 in
    so_far-more (g.met.K.Sink.place_then _ _ _) (g.met.K.Sink.same_then _ _ _ true) c.loop-position.invariant parts (rw c.place_at.ensures at c.in_ok-append_place.ensures)
