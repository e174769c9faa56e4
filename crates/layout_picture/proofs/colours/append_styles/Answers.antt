use Rattle.layout_picture.proofs.colours.append_styles.Goals as goal
use Rattle.std.proofs.Common.{◌≡◌, ◌++◌, ◌∷◌, List, ℕ, [], ap, true}
use Rattle.std.proofs.lemmas.List.{nil_from_length}
use Rattle.shelf_io.proofs.SoFar.{so_far-begun, so_far-done, so_far-failed, so_far-more}
use Rattle.layout_picture.specs.Styles.{colour_after, style_text, styles_text}

-- the rules of some layers are that of the first and those of the others
styles-first : (n : ℕ) (ls : List (List ℕ)) (l : List ℕ) (rest : List (List ℕ)) → ls ≡ l ∷ rest → styles_text n ls ≡ style_text n l ++ styles_text (colour_after n) rest
unfolding styles_text
styles-first n ls l rest is = ap (styles_text n) is

styles-none : (n : ℕ) (ls : List (List ℕ)) → ls ≡ [] → styles_text n ls ≡ []
unfolding styles_text
styles-none n ls is = ap (styles_text n) is

pub loop-layer-init : goal.loop-layer-init
loop-layer-init g c = so_far-begun _ c.args.buffer.now _ _ (g.met.K.Sink.place_here c.args.out.now) (g.met.K.Sink.same_here c.args.out.now)

pub returns-in_err-append_style : goal.returns-in_err-append_style
returns-in_err-append_style g c =
    let parts = styles-first c.loop-layer.number c.loop-layer.rest.now c.in-Some.layer.now c.in-Some.after.now c.in-Some.ensures.cases.0 in
    so_far-failed c.from_residual.result _ (g.met.K.Sink.place_then _ _ _) (g.met.K.Sink.same_then _ _ _) c.from_residual.ensures.0 c.loop-layer.invariant parts (rw c.text.ensures.text at c.in_err-append_style.ensures)

pub loop-layer-preserved : goal.loop-layer-preserved
loop-layer-preserved g c =
    let parts = styles-first c.loop-layer.number c.loop-layer.rest.now c.in-Some.layer.now c.in-Some.after.now c.in-Some.ensures.cases.0 in
    rw c.colour_after-number.ensures
    (so_far-more (g.met.K.Sink.place_then _ _ _) (g.met.K.Sink.same_then _ _ _ true) c.loop-layer.invariant parts (rw c.text.ensures.text at c.in_ok-append_style.ensures))

pub returns : goal.returns
returns g c =
    let none = styles-none c.loop-layer.number c.loop-layer.rest.now (nil_from_length c.loop-layer.rest.now c.in_default.ensures.cases) in
    so_far-done _ none c.loop-layer.invariant
