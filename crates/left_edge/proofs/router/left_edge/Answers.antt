use Rattle.std.proofs.Common.{sym, ◌∙◌, ap, length, rules}
use Rattle.channel_model.specs.declared.wiring.Wiring.{Wiring}
use Rattle.left_edge.specs.Columns.{IsUnconstrained}
use Rattle.left_edge.proofs.WiredLaws.{edge_wired}
use Rattle.left_edge.proofs.SingleLaws.{edge_single, tracks-density}
use Rattle.left_edge.proofs.LeastLaws.{density-is_least}
use Rattle.left_edge.proofs.FullnessLaws.{over_fullest}
use Rattle.left_edge.proofs.router.left_edge.Goals as goal

pub returns-clause-wired : goal.returns-clause-wired
returns-clause-wired c =
    let free : IsUnconstrained c.args.channel.now = search rules in
    rw c.in_ok-wiring_of.ensures (edge_wired c.args.channel.now c.first_constrained.ensures.channel free)

pub returns-clause-single : goal.returns-clause-single
returns-clause-single c = rw c.in_ok-wiring_of.ensures (edge_single c.args.channel.now)

pub returns-clause-tracks : goal.returns-clause-tracks
returns-clause-tracks c =
    let free : IsUnconstrained c.args.channel.now = search rules in
    ap (λ (w : Wiring). w.tracks) c.in_ok-wiring_of.ensures ∙ tracks-density c.args.channel.now c.first_constrained.ensures.channel free

pub returns-clause-least : goal.returns-clause-least
returns-clause-least c =
    let free : IsUnconstrained c.args.channel.now = search rules in
    rw (ap (λ (w : Wiring). w.tracks) c.in_ok-wiring_of.ensures ∙ tracks-density c.args.channel.now c.first_constrained.ensures.channel free)
    (density-is_least c.args.channel.now c.first_constrained.ensures.channel free)

pub returns-clause-as_many : goal.returns-clause-as_many
returns-clause-as_many c =
    let free : IsUnconstrained c.args.channel.now = search rules in
    ap length c.new.ensures ∙ ap length c.in_ok-nets_over.ensures
    ∙ over_fullest c.args.channel.now c.first_constrained.ensures.channel free c.fullest_column-column.result c.fullest_column-column.ensures.fullest
    ∙ sym (ap (λ (w : Wiring). w.tracks) c.in_ok-wiring_of.ensures ∙ tracks-density c.args.channel.now c.first_constrained.ensures.channel free)
