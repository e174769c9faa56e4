use Rattle.std.proofs.Common.{sym, ◌∙◌}
use Rattle.std.proofs.lemmas.List.{nil_from_length}
use Rattle.blif_reader.proofs.RunLaws.{cleaned-end, cleaned-on}
use Rattle.blif_reader.proofs.plain.without_comments.Goals as goal

pub loop-byte-preserved : goal.loop-byte-preserved
loop-byte-preserved c =
    rw (c.in_ok-push.ensures.items, c.shown.ensures, c.within_after-within.ensures)
    (cleaned-on c.loop-byte.text.items c.loop-byte.within c.loop-byte.rest.now c.in-Some.byte.now c.in-Some.after.now c.in-Some.ensures.cases.0 ∙ c.loop-byte.invariant)

pub returns : goal.returns
returns c = sym (cleaned-end c.loop-byte.text.items c.loop-byte.within c.loop-byte.rest.now (nil_from_length c.loop-byte.rest.now c.in_default.ensures.cases)) ∙ c.loop-byte.invariant
