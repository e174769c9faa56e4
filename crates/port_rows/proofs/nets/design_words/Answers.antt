use Rattle.std.proofs.Common.{◌∙◌, ap, subst}
use Rattle.std.proofs.lemmas.Result.{IfOk-weaker}
use Rattle.design_model.specs.Netlist.{IsNetlist, Netlist}
use Rattle.list_facts.specs.Names.{mentions}
use Rattle.list_facts.proofs.Different.{mentions-different}
use Rattle.port_rows.proofs.nets.design_words.Goals as goal

pub returns : goal.returns
returns c =
    let good = subst IsNetlist c.design.view_is c.design.invariant.netlist in
    IfOk-weaker c.words_of.result _ _ (λ words is. is ∙ ap mentions (c.items.ensures ∙ ap (λ (d : Netlist). d.nets) c.design.view_is)
    ∙ mentions-different c.args.design.now.nets good.different_nets) c.words_of.ensures
