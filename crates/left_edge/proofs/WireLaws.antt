use Rattle.std.proofs.Common.{◌≡◌, ◌≢◌, ◌<◌, ◌+◌, ◌||◌, not, false, true, eqb, ℕ, List, [], ◌∷◌, inl, inr, sym, ap, subst, ◌∙◌, arith, Contains, length, get_or, map}
use Rattle.std.proofs.lemmas.Bool.{cond-false, ne_eqb, both_ways}
use Rattle.std.proofs.lemmas.Bool.Decides.{nat_tests}
use Rattle.std.proofs.lemmas.List.{get_or-map}
use Rattle.std.proofs.lemmas.List.Elements.{Contains-get_or}
use Rattle.channel_model.specs.declared.wiring.Segment.TheVariants.{Across}
use Rattle.channel_model.specs.Pins.{Pins, IsChannel}
use Rattle.channel_model.specs.Nets.{nets_of}
use Rattle.channel_model.proofs.NetsOf.{nets-are}
use Rattle.left_edge.specs.Columns.{IsUnconstrained}
use Rattle.left_edge.specs.Tracks.{level_of, track_of, track_count}
use Rattle.left_edge.specs.EdgeWiring.{bottom_across, top_across, bottom_via, via_at}
use Rattle.left_edge.proofs.TrackLaws.{lasts-few}
use Rattle.left_edge.proofs.OwnerLaws.{low_track}

-- a pin's net is listed
pub listed_bottom : (pins : Pins) (nets : List ℕ) (column net : ℕ) → nets ≡ nets_of pins → net ≡ get_or pins.bottom column 0 → net ≢ 0 → Contains nets net
listed_bottom pins nets column net are at some = rw are ((nets-are pins).listed net (omega arith, (column, inr (sym at))))

pub listed_top : (pins : Pins) (nets : List ℕ) (column net : ℕ) → nets ≡ nets_of pins → net ≡ get_or pins.top column 0 → net ≢ 0 → Contains nets net
listed_top pins nets column net are at some = rw are ((nets-are pins).listed net (omega arith, (column, inl (sym at))))

pub bottom_across-one : (pins : Pins) (column net : ℕ) → net ≡ get_or pins.bottom column 0 → net ≢ 0
    → bottom_across pins column ≡ Across net column 0 (track_of pins net) ∷ []
bottom_across-one pins column net at some =
    cond-false (eqb (get_or pins.bottom column 0) 0) _ _ (ne_eqb _ _ (λ none. some (at ∙ none)))
    ∙ ap (λ n. Across n column 0 (track_of pins n) ∷ []) (sym at)

pub top_across-one : (pins : Pins) (column net : ℕ) → net ≡ get_or pins.top column 0 → net ≢ 0
    → top_across pins column ≡ Across net column (track_of pins net) (track_count pins + 1) ∷ []
top_across-one pins column net at some =
    cond-false (eqb (get_or pins.top column 0) 0) _ _ (ne_eqb _ _ (λ none. some (at ∙ none)))
    ∙ ap (λ n. Across n column (track_of pins n) (track_count pins + 1) ∷ []) (sym at)

pub bottom_via-one : (pins : Pins) (column net : ℕ) → net ≡ get_or pins.bottom column 0 → net ≢ 0 → bottom_via pins column ≡ via_at pins net column ∷ []
bottom_via-one pins column net at some =
    cond-false (eqb (get_or pins.bottom column 0) 0) _ _ (ne_eqb _ _ (λ none. some (at ∙ none))) ∙ ap (λ n. via_at pins n column ∷ []) (sym at)

-- where a top pin has the via, it is a pin
pub pin_of_via : (net other : ℕ) → not (eqb net 0 || not (eqb other 0)) ≡ true → net ≢ 0
pin_of_via net other has = λ none. both_ways _ (by net other none) has
  where
    by : (top bottom : ℕ) → top ≡ 0 → not (eqb top 0 || not (eqb bottom 0)) ≡ false
    by top bottom is = grind (arith, nat_tests)

-- levels are small numbers
pub level_few : (pins : Pins) → IsChannel pins → IsUnconstrained pins → (nets levels : List ℕ) (place : ℕ) → nets ≡ nets_of pins
    → levels ≡ map (level_of pins) nets → place < length nets → (d : ℕ) → get_or levels place d < 4000000
level_few pins channel free nets levels place are made within d =
    let at : get_or levels place d ≡ level_of pins (get_or nets place 0) = rw made (get_or-map (level_of pins) nets place 0 d within) in
    let member : Contains (nets_of pins) (get_or nets place 0) =
    subst (λ l. Contains l (get_or nets place 0)) are (Contains-get_or nets place 0 within) in
    let low = low_track pins channel free (get_or nets place 0) ((nets-are pins).standing (get_or nets place 0) member) in
    omega (arith, lasts-few pins (length pins.top), channel.within)
