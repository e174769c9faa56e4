use Rattle.std.proofs.Common.{◌≡◌, ◌∙◌, ◌∷◌, ◌+◌, drop, true, false, ap, sym}
use Rattle.std.proofs.lemmas.List.{drop_more}
use Rattle.std.specs.List.{list_any}
use Rattle.std.specs.Str.{bytes_eq}
use Rattle.yal_reader.specs.declared.file.Module.{Module}
use Rattle.list_facts.specs.Names.{mentions}
use Rattle.netlist_core.specs.OnGrid.{called_names}
use Rattle.netlist_core.proofs.UsedNames.{used-next, used-skip}
use Rattle.netlist_core.proofs.used.used_modules.Goals as goal

pub loop-i-preserved-then-not-is_among : goal.loop-i-preserved-then-not-is_among
loop-i-preserved-then-not-is_among c =
    let at = drop_more c.items-modules.result.now c.loop-i.i c.index-modules-i.result c.loop-i-test.true
    ∙ ap (λ (m : Module). m ∷ drop (c.loop-i.i + 1) c.items-modules.result.now) (sym c.index-modules-i.is) in
    let other : list_any (bytes_eq c.index-modules-i.result.name) (mentions (called_names c.args.calls.now)) ≡ false =
    cc (c.is_among.ensures, c.items.ensures, c.in_ok-called.ensures, c.if-not-is_among.true) in
    used-skip c.args.calls.now _ _ c.loop-i.i c.index-modules-i.result _ _ at other c.loop-i.invariant

pub loop-i-preserved : goal.loop-i-preserved
loop-i-preserved c =
    let at = drop_more c.items-modules.result.now c.loop-i.i c.index-modules-i.result c.loop-i-test.true
    ∙ ap (λ (m : Module). m ∷ drop (c.loop-i.i + 1) c.items-modules.result.now) (sym c.index-modules-i.is) in
    let called : list_any (bytes_eq c.index-modules-i.result.name) (mentions (called_names c.args.calls.now)) ≡ true =
    cc (c.is_among.ensures, c.items.ensures, c.in_ok-called.ensures, c.if-not-is_among.false) in
    rw c.in_ok-push.ensures.items (used-next c.args.calls.now _ _ c.loop-i.i c.index-modules-i.result _ _ at called c.loop-i.invariant)
