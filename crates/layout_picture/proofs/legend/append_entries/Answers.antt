use Rattle.layout_picture.proofs.legend.append_entries.Goals as goal
use Rattle.std.proofs.Common.{◌≡◌, ◌++◌, ◌∷◌, List, ℕ, [], ap, true}
use Rattle.std.proofs.lemmas.List.{nil_from_length}
use Rattle.shelf_io.proofs.SoFar.{so_far-begun, so_far-done, so_far-failed, so_far-more}
use Rattle.std.specs.Prelude.{Option}
use Rattle.layout_picture.specs.Legend.{entries_text, entry_text}
use Rattle.layout_picture.specs.declared.view.Roles.{Roles}

-- the entries of some layers are that of the first and those of the others
entries-first : (r : Option Roles) (ls : List (List ℕ)) (l : List ℕ) (rest : List (List ℕ)) → ls ≡ l ∷ rest → entries_text r ls ≡ entry_text r l ++ entries_text r rest
entries-first r ls l rest is = ap (entries_text r) is

entries-none : (r : Option Roles) (ls : List (List ℕ)) → ls ≡ [] → entries_text r ls ≡ []
entries-none r ls is = ap (entries_text r) is

pub loop-layer-init : goal.loop-layer-init
loop-layer-init g c = so_far-begun _ c.args.buffer.now _ _ (g.met.K.Sink.place_here c.args.out.now) (g.met.K.Sink.same_here c.args.out.now)

pub returns-in_err-append_entry : goal.returns-in_err-append_entry
returns-in_err-append_entry g c =
    let parts = entries-first c.args.roles.now c.loop-layer.rest.now c.in-Some.layer.now c.in-Some.after.now c.in-Some.ensures.cases.0 in
    so_far-failed c.from_residual.result _ (g.met.K.Sink.place_then _ _ _) (g.met.K.Sink.same_then _ _ _) c.from_residual.ensures.0 c.loop-layer.invariant parts (rw c.text.ensures.text at c.in_err-append_entry.ensures)

pub loop-layer-preserved : goal.loop-layer-preserved
loop-layer-preserved g c =
    let parts = entries-first c.args.roles.now c.loop-layer.rest.now c.in-Some.layer.now c.in-Some.after.now c.in-Some.ensures.cases.0 in
    so_far-more (g.met.K.Sink.place_then _ _ _) (g.met.K.Sink.same_then _ _ _ true) c.loop-layer.invariant parts (rw c.text.ensures.text at c.in_ok-append_entry.ensures)

pub returns : goal.returns
returns g c =
    let none = entries-none c.args.roles.now c.loop-layer.rest.now (nil_from_length c.loop-layer.rest.now c.in_default.ensures.cases) in
    so_far-done _ none c.loop-layer.invariant
