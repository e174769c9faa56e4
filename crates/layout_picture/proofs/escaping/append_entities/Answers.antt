use Rattle.layout_picture.proofs.escaping.append_entities.Goals as goal
use Rattle.std.proofs.Common.{◌≡◌, ◌++◌, ◌∷◌, ℕ, List, [], ap, true}
use Rattle.std.proofs.lemmas.List.{nil_from_length}
use Rattle.note_text.specs.Shown.{shown}
use Rattle.shelf_io.proofs.SoFar.{so_far-begun, so_far-done, so_far-failed, so_far-more}
use Rattle.layout_picture.specs.Entities.{entities, entity}
use Rattle.layout_picture.proofs.EntityLaws.{entities-plain}

-- some bytes are the first and the others
bytes-first : (bytes : List ℕ) (byte : ℕ) (rest : List ℕ) → bytes ≡ byte ∷ rest → entities bytes ≡ entity (shown byte) ++ entities rest
unfolding entities
bytes-first bytes byte rest is = ap entities is

bytes-none : (bytes : List ℕ) → bytes ≡ [] → entities bytes ≡ []
unfolding entities
bytes-none bytes is = ap entities is

pub loop-byte-init : goal.loop-byte-init
loop-byte-init g c = so_far-begun _ c.args.buffer.now _ _ (g.met.K.Sink.place_here c.args.out.now) (g.met.K.Sink.same_here c.args.out.now)

pub returns-in_err-append_entity-clause-writes : goal.returns-in_err-append_entity-clause-writes
returns-in_err-append_entity-clause-writes g c =
    let parts = bytes-first c.loop-byte.rest.now c.in-Some.byte.now c.in-Some.after.now c.in-Some.ensures.cases.0 in
    so_far-failed c.from_residual.result _ (g.met.K.Sink.place_then _ _ _) (g.met.K.Sink.same_then _ _ _) c.from_residual.ensures.0 c.loop-byte.invariant parts
    (rw c.shown.ensures at c.in_err-append_entity.ensures)

pub returns-in_err-append_entity-clause-plain : goal.returns-in_err-append_entity-clause-plain
returns-in_err-append_entity-clause-plain g c = entities-plain c.args.bytes.now

pub loop-byte-preserved : goal.loop-byte-preserved
loop-byte-preserved g c =
    let parts = bytes-first c.loop-byte.rest.now c.in-Some.byte.now c.in-Some.after.now c.in-Some.ensures.cases.0 in
    so_far-more (g.met.K.Sink.place_then _ _ _) (g.met.K.Sink.same_then _ _ _ true) c.loop-byte.invariant parts (rw c.shown.ensures at c.in_ok-append_entity.ensures)

pub returns-clause-writes : goal.returns-clause-writes
returns-clause-writes g c =
    let none = bytes-none c.loop-byte.rest.now (nil_from_length c.loop-byte.rest.now c.in_default.ensures.cases) in
    so_far-done _ none c.loop-byte.invariant

pub returns-clause-plain : goal.returns-clause-plain
returns-clause-plain g c = entities-plain c.args.bytes.now
