use Rattle.std.proofs.Common.{◌∙◌, sym, [], ◌∷◌}
use Rattle.std_laws.proofs.Every.{every-append}
use Rattle.cif_text.specs.Printable.{IsNearCorner}
use Rattle.cif_text.proofs.PathLaws.{path-fails, path-on, path-ends, corner-less}
use Rattle.cif_text.proofs.paths.corners_at.Goals as goal

pub returns-in-Err-clause-is : goal.returns-in-Err-clause-is
returns-in-Err-clause-is c =
    let more = sym c.are_separators.ensures ∙ c.loop-rest-test.true in
    sym c.loop-rest.invariant.0 ∙ path-fails c.loop-rest.path.items c.loop-rest.rest.now c.in-Err.misfit more c.in-Err.ensures.gives

pub loop-rest-smaller : goal.loop-rest-smaller
loop-rest-smaller c =
    let more = sym c.are_separators.ensures ∙ c.loop-rest-test.true in
    corner-less c.loop-rest.rest.now c.in-Ok.found.1.now c.in-Ok.found.0 more c.in-Ok.ensures.gives

pub loop-rest-preserved : goal.loop-rest-preserved
loop-rest-preserved c =
    let more = sym c.are_separators.ensures ∙ c.loop-rest-test.true in
    let on = path-on c.loop-rest.path.items c.loop-rest.rest.now c.in-Ok.found.1.now c.in-Ok.found.0 more c.in-Ok.ensures.gives in
    rw c.in_ok-push.ensures.items (
      sym on ∙ c.loop-rest.invariant.0,
      every-append IsNearCorner c.loop-rest.path.items (c.in-Ok.found.0 ∷ []) c.loop-rest.invariant.1 (c.in-Ok.ensures.near, tt),
    )

pub returns-clause-is : goal.returns-clause-is
returns-clause-is c =
    let last = sym c.are_separators.ensures ∙ c.loop-rest-test.false in
    rw c.new.ensures (sym c.loop-rest.invariant.0 ∙ path-ends c.loop-rest.path.items _ c.loop-rest.rest.now last)
