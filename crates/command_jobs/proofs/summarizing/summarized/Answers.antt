use Rattle.std.proofs.Common.{rules, ◌≡◌, ◌∙◌, ◌<◌, ◌^◌, List, length, ap, subst, sym, arith}
use Rattle.design_model.specs.Netlist.{IsNetlist, Netlist}
use Rattle.design_model.proofs.DesignPins.{nets-few}
use Rattle.feed_cells.specs.Fed.{Fed}
use Rattle.feed_cells.specs.declared.fed.Item.{Item}
use Rattle.command_jobs.specs.Summarized.{feeds_in}
use Rattle.command_jobs.proofs.SummaryLaws.{feeds-few}
use Rattle.command_jobs.proofs.summarizing.summarized.Goals as goal

pub overflow_cast-result-2 : goal.overflow_cast-result-2
overflow_cast-result-2 c =
    let is : IsNetlist c.args.design.now = search rules in
    let long : length c.items-2.result.now ≡ length c.args.design.now.nets = ap length (c.items-2.ensures ∙ ap (λ (d : Netlist). d.nets) c.design.view_is) in
    omega (arith, nets-few c.args.design.now is, long)

pub feeds_in-requires : goal.feeds_in-requires
feeds_in-requires c =
    let rows : c.items-4.result.now ≡ c.args.fed.now.rows = c.items-4.ensures ∙ ap (λ (f : Fed). f.rows) c.fed.view_is in
    subst (λ (l : List (List Item)). feeds_in l < 2 ^ 64) (sym rows) (feeds-few c.args.design.now c.args.fed.now c.requires.fed c.requires.narrow)
