use Rattle.std.proofs.Common.{◌≡◌, ◌<◌, ℕ, List, length, map, refl, ap, sym, ◌∙◌, arith}
use Rattle.std.proofs.lemmas.List.FromFn.{length-range_with_len}
use Rattle.std.proofs.lemmas.List.{length-map}
use Rattle.std.proofs.lemmas.Option.{slice_get_read}
use Rattle.std.specs.List.{range_with_len, slice_get}
use Rattle.design_model.specs.Netlist.{Netlist}
use Rattle.row_board.specs.Trial.{joined, marked_pins}
use Rattle.std_laws.proofs.Ranges.{image-of}
use Rattle.row_board.proofs.nets.Nets.joined.Goals as goal

-- the counts of all instances are as many as these
counts-long : (d : Netlist) (counts : List ℕ) → counts ≡ map (marked_pins d (joined d)) (range_with_len 0 (length d.instances)) → length counts ≡ length d.instances
counts-long d counts is =
    ap length is ∙ length-map (range_with_len 0 (length d.instances)) (marked_pins d (joined d)) ∙ length-range_with_len 0 (length d.instances)

pub index-requires : goal.index-requires
index-requires c =
    let long = counts-long c.self.inside.design.now c.self.inside.joined.items c.self.invariant.joined in
    omega (arith, c.requires, ap (λ (v : Netlist). length v.instances) c.self.view_is, long)

pub returns : goal.returns
returns c =
    let d = c.self.inside.design.now in
    let all = c.self.inside.joined.items in
    let i : ℕ = c.args.instance in
    let within : i < length all = omega (arith, c.requires, ap (λ (v : Netlist). length v.instances) c.self.view_is, counts-long d all c.self.invariant.joined) in
    c.from.ensures
    ∙ sym (image-of (marked_pins d (joined d)) (length d.instances) i c.index.result.now
    (ap (λ (l : List ℕ). slice_get l i) (sym c.self.invariant.joined) ∙ slice_get_read all (length all) i c.index.result.now refl within c.index.ensures))
    ∙ ap (λ (v : Netlist). marked_pins v (joined v) i) c.self.view_is
