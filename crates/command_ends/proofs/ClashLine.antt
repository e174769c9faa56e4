use Rattle.std.proofs.Common.{◌≡◌, codes, ℕ, List, [], ◌∷◌, ap, sym}
use Rattle.shelf_io.specs.Lines.{line}
use Rattle.command_ends.specs.Line.{refusal_words}
use Rattle.command_ends.specs.declared.refusal.Refusal.TheVariants.{PortClash}

-- the line of a name that ports would have
pub clash-line : (name found : List ℕ) → found ≡ name → line (refusal_words (PortClash name)) ≡ line (codes "design" ∷ codes "PortClash" ∷ found ∷ [])
unfolding refusal_words
clash-line name found is = ap (λ (n : List ℕ). line (codes "design" ∷ codes "PortClash" ∷ n ∷ [])) (sym is)
