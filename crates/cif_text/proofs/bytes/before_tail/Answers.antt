use Rattle.std.proofs.Common.{sym, ap, ◌∙◌}
use Rattle.cif_text.specs.Bytes.{without_tail}
use Rattle.cif_text.proofs.ScanLemmas.{tail-white, tail-kept}
use Rattle.cif_text.proofs.bytes.before_tail.Goals as goal

pub returns-then-not-is_white : goal.returns-then-not-is_white
returns-then-not-is_white c =
    let other = tail-kept c.in-Some.before.now c.in-Some.byte.now (sym c.is_white.ensures ∙ c.if-not-is_white.true) in
    c.in-Some.ensures.cases.0 ∙ sym other ∙ ap without_tail (sym c.in-Some.ensures.cases.0) ∙ c.loop-byte.invariant

pub loop-byte-preserved : goal.loop-byte-preserved
loop-byte-preserved c =
    let white = tail-white c.in-Some.before.now c.in-Some.byte.now (sym c.is_white.ensures ∙ c.if-not-is_white.false) in
    sym white ∙ ap without_tail (sym c.in-Some.ensures.cases.0) ∙ c.loop-byte.invariant
