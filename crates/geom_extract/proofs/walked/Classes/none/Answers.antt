use Rattle.std.proofs.Common.{◌≡◌, ◌∙◌, ℕ, ap, length, replicate, rules, arith}
use Rattle.geom_extract.specs.Webs.{Web}
use Rattle.geom_extract.proofs.Settled.{settled-start}
use Rattle.geom_extract.proofs.walked.Classes.none.Goals as goal

pub invariant_of-result : goal.invariant_of-result
invariant_of-result c =
    let count : c.len.result ≡ length c.args.web.now.asks = omega (arith, ap (λ (w : Web). length w.asks) c.web.view_is) in
    settled-start c.args.web.now c.in_ok-list.list.items c.in_ok-set.set
    (c.in_ok-list.ensures.items_if_clones_equal (search rules) ∙ ap (λ (n : ℕ). replicate n 4294967295) count)
    (rw (← c.web.view_is, ← c.as_slice.ensures.value) c.in_ok-set.ensures)
