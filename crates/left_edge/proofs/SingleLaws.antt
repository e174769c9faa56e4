use Rattle.std.proofs.Common.{◌≡◌, ◌++◌, eqb, ℕ, List, [], ◌∷◌, refl, ap, ap₂, ◌∙◌, arith, length, get_or, map, filter}
use Rattle.std.proofs.lemmas.Bool.{cond_both}
use Rattle.std.proofs.lemmas.List.Elements.{filter-append}
use Rattle.channel_model.specs.declared.wiring.Segment.{Segment}
use Rattle.channel_model.specs.declared.wiring.Wiring.{Wiring}
use Rattle.channel_model.specs.Pins.{Pins, IsChannel}
use Rattle.channel_model.specs.Nets.{nets_of}
use Rattle.channel_model.specs.Density.{density_of}
use Rattle.channel_model.proofs.NetsOf.{nets-are}
use Rattle.left_edge.specs.Columns.{IsUnconstrained}
use Rattle.left_edge.specs.Spans.{span}
use Rattle.left_edge.specs.Tracks.{track_count}
use Rattle.left_edge.specs.EdgeWiring.{by_column, bottom_across, top_across, along, edge_wiring}
use Rattle.left_edge.specs.Single.{is_along_of, AreCovered, IsSingle}
use Rattle.left_edge.proofs.ByColumnLaws.{filter-by_column}
use Rattle.left_edge.proofs.CountLaws.{tracks_at_most}
use Rattle.left_edge.proofs.LeastLaws.{density-is_least}
use Rattle.left_edge.proofs.WiredLaws.{edge_wired}
use Rattle.std_laws.proofs.Images.{filter-map}
use Rattle.std_laws.proofs.Increasing.{increasing-distinct}
use Rattle.std_laws.proofs.Distinct.{filter-one}

-- no Across is an Along
none_bottom : (pins : Pins) (net column : ℕ) → filter (is_along_of net) (bottom_across pins column) ≡ []
none_bottom pins net column =
    let none : List Segment = [] in
    cond_both (eqb (get_or pins.bottom column 0) 0) none _ (λ l. filter (is_along_of net) l ≡ none) (λ t. refl) (λ f. refl)

none_top : (pins : Pins) (net column : ℕ) → filter (is_along_of net) (top_across pins column) ≡ []
none_top pins net column =
    let none : List Segment = [] in
    cond_both (eqb (get_or pins.top column 0) 0) none _ (λ l. filter (is_along_of net) l ≡ none) (λ t. refl) (λ f. refl)

-- the wiring has one Along for each net
pub edge_single : (pins : Pins) → IsSingle pins (edge_wiring pins)
edge_single pins net stands =
    let w = length pins.top in
    let p = is_along_of net in
    let bottom = by_column (bottom_across pins) w in
    let top = by_column (top_across pins) w in
    let rest = map (along pins) (nets_of pins) in
    let none : List Segment = [] in
    let no_bottom : filter p bottom ≡ none = filter-by_column p (bottom_across pins) (none_bottom pins net) w in
    let no_top : filter p top ≡ none = filter-by_column p (top_across pins) (none_top pins net) w in
    let one : filter p rest ≡ along pins net ∷ none =
    filter-map p (along pins) (nets_of pins)
    ∙ ap (map (along pins)) (filter-one (nets_of pins) net (increasing-distinct (nets_of pins) (nets-are pins).ascending) ((nets-are pins).listed net stands)) in
    let front : filter p (bottom ++ top) ≡ none =
    filter-append p bottom top ∙ ap₂ (λ (xs ys : List Segment). xs ++ ys) no_bottom no_top in
    (_, filter-append p (bottom ++ top) rest ∙ ap₂ (λ (xs ys : List Segment). xs ++ ys) front one)

-- one that reaches from a net's first to its last pin column covers them
single-covers : (pins : Pins) (wiring : Wiring) → IsSingle pins wiring → AreCovered pins wiring
single-covers pins wiring single net stands =
    let own = single net stands in
    record { track = own.0; from = (span pins net).first; to = (span pins net).last; alone = own.1; first = omega arith; last = omega arith }

-- it has as many tracks as the density
pub tracks-density : (pins : Pins) → IsChannel pins → IsUnconstrained pins → track_count pins ≡ density_of pins
tracks-density pins channel free =
    omega (
      arith,
      tracks_at_most pins channel free,
      density-is_least pins channel free (edge_wiring pins) (edge_wired pins channel free)
          (single-covers pins (edge_wiring pins) (edge_single pins)),
    )
