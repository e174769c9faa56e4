use Rattle.pin_assign.proofs.entries.laid_entries.Goals as goal
use Rattle.std.proofs.Common.{rules, ℕ, fold, refl}
use Rattle.pin_assign.specs.Tabled.{laid, laid_entries}
use Rattle.std_laws.proofs.Places.{filled}

pub returns : goal.returns
unfolding laid_entries
returns c =
    filled (λ (k net : ℕ). fold (laid c.args.mirror c.args.columns c.args.top c.args.channel k) net c.args.pins.now)
    (λ (k : ℕ). fold (laid c.args.mirror c.args.columns c.args.top c.args.channel k) 0 c.args.pins.now) 0 (λ k. refl) c.args.columns
    c.in_ok-entries.entries.items c.lay_all.new.entries c.in_ok-entries.entries.len (search rules) (search rules) (search rules) (rw c.as_mut_slice.ensures.value at c.lay_all.ensures)
