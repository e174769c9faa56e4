use Rattle.std.proofs.Common.{◌≡◌, ◌<◌, ◌≤◌, ℕ, zero, suc, [], inl, inr, length, sym, subst, ap, ◌∙◌, arith, count_by}
use Rattle.std.proofs.lemmas.Bool.{cases_lt}
use Rattle.std.proofs.lemmas.List.Sums.{count_by-le-length}
use Rattle.channel_model.specs.Density.{density_of, greatest, is_over, spans_of}
use Rattle.channel_model.specs.Nets.{nets_of}
use Rattle.channel_model.specs.Pins.{Pins}
use Rattle.channel_model.specs.declared.wiring.Wiring.{Wiring}
use Rattle.channel_model.proofs.DensityLaws.{length-spans_of}
use Rattle.left_edge.specs.Columns.{IsConstrained, IsFirstConstrained, IsUnconstrained}
use Rattle.left_edge.specs.EdgeWiring.{edge_wiring}
use Rattle.left_edge.specs.Single.{IsLeast, IsSingle}
use Rattle.greedy_router.specs.Answers.{IsEdgeRouted, IsWithinLimits}
use Rattle.greedy_router.specs.declared.sweep.By.TheVariants.{Edge}
use Rattle.greedy_router.specs.declared.sweep.Routed.{Routed}

-- a channel of which no column is the first constrained one has none
none-before : (pins : Pins) → ((column : ℕ) → IsFirstConstrained pins column → ⊥) → (n k : ℕ) → k < n → IsConstrained pins k → ⊥
none-before pins none zero k less here = absurd (omega (arith, less))
none-before pins none (suc n) k less here = elim (cases_lt k n) [
  | inl before ↦ none-before pins none n k before here
  | inr last ↦
      let same : k ≡ n = omega (arith, less, last) in
      none n (record { here = subst (λ c. IsConstrained pins c) same here; before = none-before pins none n })
]

pub unconstrained : (pins : Pins) → ((column : ℕ) → IsFirstConstrained pins column → ⊥) → IsUnconstrained pins
unconstrained pins none column here = none-before pins none (suc column) column (omega arith) here

-- no value of a function is greater than what bounds them all
greatest-few : (f : ℕ → ℕ) (n most : ℕ) → ((k : ℕ) → f k ≤ most) → greatest f n ≤ most
greatest-few f zero most each = omega arith
greatest-few f (suc n) most each =
    let before = greatest-few f n most each in
    let last = each n in omega (arith, before, last)

-- a channel's density is at most its number of nets
pub density-few : (pins : Pins) → density_of pins ≤ length (nets_of pins)
density-few pins =
    greatest-few (λ column. count_by (is_over column) (spans_of pins (nets_of pins))) (length pins.top) (length (nets_of pins))
    (λ column. omega (arith, count_by-le-length (is_over column) (spans_of pins (nets_of pins)), length-spans_of pins (nets_of pins)))

module _ (pins : Pins) (wiring : Wiring) (one : Routed) (same : one.wiring ≡ wiring) (tracks : wiring.tracks ≡ density_of pins)
    (columns : wiring.columns ≡ length pins.top) where
  -- the left-edge router's wiring keeps a router's limits
  pub edge-within : IsWithinLimits pins one.wiring
  edge-within =
      subst (λ (w : Wiring). IsWithinLimits pins w) (sym same)
      (record { tracks = omega (arith, tracks, density-few pins); columns = omega (arith, columns) })

  pub edge-routed : one.by ≡ Edge → one.sweep ≡ record { begun = 0; columns = []; order = [] } → wiring ≡ edge_wiring pins → IsSingle pins wiring
      → IsLeast pins wiring.tracks → IsEdgeRouted pins one
  edge-routed by swept stated single least = record {
    by_edge = by;
    stated = same ∙ stated;
    swept = swept;
    single = subst (λ (w : Wiring). IsSingle pins w) (sym same) single;
    tracks = ap (λ (w : Wiring). w.tracks) same ∙ tracks;
    columns = ap (λ (w : Wiring). w.columns) same ∙ columns;
    least = subst (λ (w : Wiring). IsLeast pins w.tracks) (sym same) least;
  }
