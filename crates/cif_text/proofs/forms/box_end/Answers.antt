use Rattle.std.proofs.Common.{rules, sym, ◌∙◌, w64, SFits, to_z-of_z}
use Rattle.cif_text.proofs.SoundLemmas.{box_end-directed}
use Rattle.cif_text.proofs.forms.box_end.Goals as goal

pub returns-clause-is : goal.returns-clause-is
returns-clause-is c =
    let dx : SFits w64 c.in_ok-dx.dx = search rules in
    let dy : SFits w64 c.in_ok-dy.dy = search rules in
    let is = rw (to_z-of_z dx, to_z-of_z dy) at c.box_along-2.ensures.is in
    rw is
    (box_end-directed c.args.numbers.length c.args.numbers.width c.args.numbers.cx c.args.numbers.cy c.args.bytes.now _ _ (sym c.are_separators.ensures ∙ c.if-are_separators.false)
    c.in_ok-dx.ensures.gives c.in_ok-dy.ensures.gives (sym c.are_separators-2.ensures ∙ c.if-not-are_separators.false))
