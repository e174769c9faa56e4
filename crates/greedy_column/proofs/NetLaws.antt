use Rattle.std.proofs.Common.{◌≡◌, ◌⊎◌, inl, inr, eqb, ℕ, List, [], ◌∷◌, Bool, true, false, cond, map, refl, subst, arith, Contains}
use Rattle.std.proofs.lemmas.Bool.{cases_eq}
use Rattle.std.specs.List.{insert, list_any}
use Rattle.channel_model.specs.Pins.{Pins}
use Rattle.channel_model.specs.Nets.{StandsIn}
use Rattle.greedy_column.specs.declared.column.Track.{Track}
use Rattle.greedy_column.specs.declared.column.Made.{Made}
use Rattle.greedy_column.specs.declared.column.Column.{Column}
use Rattle.greedy_column.specs.Tracks.{held_by, given, hold}
use Rattle.greedy_column.specs.Replay.{top_pin, bottom_pin, with_made, freed_among, freed, moved, entered, after}
use Rattle.std_laws.proofs.Members.{member-head, member-tail, map-cases}
use Rattle.std_laws.proofs.Inserted.{insert-cases}

module _ (pins : Pins) where
  -- a net is none, or stands in the channel
  abbrev pub IsNet : ℕ → Type 0
  IsNet net = (net ≡ 0) ⊎ StandsIn pins net

  abbrev pub AreNets : List Track → Type 0
  AreNets tracks = (t : Track) → Contains tracks t → IsNet t.net

  AreNets-map : (f : Track → Track) (tracks : List Track) → ((t : Track) → IsNet t.net → IsNet (f t).net) → AreNets tracks → AreNets (map f tracks)
  AreNets-map f tracks keeps nets t member =
      let from = map-cases f tracks t member in subst (λ (u : Track). IsNet u.net) from.2 (keeps from.0 (nets from.0 from.1))

  AreNets-hold : (id net : ℕ) (tracks : List Track) → IsNet net → AreNets tracks → AreNets (hold id net tracks)
  AreNets-hold id net tracks is nets = AreNets-map (given id net) tracks (λ t own. step (eqb t.id id) t own) nets where
    step : (b : Bool) (t : Track) → IsNet t.net → IsNet (cond b (record { id = t.id; net = net }) t).net
    step true t own = is
    step false t own = own

  AreNets-freed : (ended : List ℕ) (tracks : List Track) → AreNets tracks → AreNets (freed ended tracks)
  AreNets-freed ended tracks nets = AreNets-map (freed_among ended) tracks (λ t own. step (list_any (λ id. eqb id t.id) ended) t own) nets where
    step : (b : Bool) (t : Track) → IsNet t.net → IsNet (cond b (record { id = t.id; net = 0 }) t).net
    step true t own = inl refl
    step false t own = own

  held_by-net : (tracks : List Track) (id : ℕ) → AreNets tracks → IsNet (held_by tracks id)
  held_by-net [] id nets = inl refl
  held_by-net (t ∷ tracks) id nets =
      step (eqb t.id id) t (held_by tracks id) (nets t (member-head t tracks)) (held_by-net tracks id (λ u member. nets u (member-tail t tracks u member))) where
        step : (b : Bool) (t : Track) (net : ℕ) → IsNet t.net → IsNet net → IsNet (cond b t.net net)
        step true t net here later = here
        step false t net here later = later

  AreNets-moved : (moves : List (ℕ × ℕ)) (tracks : List Track) → AreNets tracks → AreNets (moved moves tracks)
  AreNets-moved [] tracks nets = nets
  AreNets-moved (m ∷ moves) tracks nets =
      AreNets-moved moves (hold m.1 (held_by tracks m.0) (hold m.0 0 tracks))
      (AreNets-hold m.1 (held_by tracks m.0) (hold m.0 0 tracks) (held_by-net tracks m.0 nets) (AreNets-hold m.0 0 tracks (inl refl) nets))

  AreNets-with_made : (tracks : List Track) (made : List Made) → AreNets tracks → AreNets (with_made tracks made)
  AreNets-with_made tracks [] nets = nets
  AreNets-with_made tracks (m ∷ made) nets =
      AreNets-with_made (insert tracks m.below (record { id = m.id; net = 0 })) made
      (λ t member. elim (insert-cases (record { id = m.id; net = 0 }) t tracks m.below member) [
        | inl same ↦ subst (λ (u : Track). IsNet u.net) same (inl refl)
        | inr old ↦ nets t old
      ])

  pin_net : (column : ℕ) → IsNet (top_pin pins column)
  pin_net column = elim (cases_eq (top_pin pins column) 0) [ inl none ↦ inl none | inr some ↦ inr (omega arith, (column, inl refl)) ]

  bottom_net : (column : ℕ) → IsNet (bottom_pin pins column)
  bottom_net column = elim (cases_eq (bottom_pin pins column) 0) [ inl none ↦ inl none | inr some ↦ inr (omega arith, (column, inr refl)) ]

  -- after a column each track's net is none or stands in the channel
  pub AreNets-after : (column : ℕ) (done : Column) (tracks : List Track) → AreNets tracks → AreNets (after pins column done tracks)
  AreNets-after column done tracks nets =
      AreNets-moved done.moves (freed done.ended (entered pins column done tracks))
      (AreNets-freed done.ended (entered pins column done tracks)
      (AreNets-hold done.top (top_pin pins column) (hold done.bottom (bottom_pin pins column) (with_made tracks done.made)) (pin_net column)
      (AreNets-hold done.bottom (bottom_pin pins column) (with_made tracks done.made) (bottom_net column) (AreNets-with_made tracks done.made nets))))
