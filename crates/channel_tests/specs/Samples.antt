-- worked wirings
use Rattle.std.specs.Prelude.{ℕ, [], ◌∷◌}
use Rattle.channel_model.specs.declared.wiring.Segment.TheVariants.{Across, Along}
use Rattle.channel_model.specs.declared.wiring.Via.{Via}
use Rattle.channel_model.specs.declared.wiring.Wiring.{Wiring}

abbrev via_at : ℕ → ℕ → ℕ → Via
via_at net column track = record { net = net; column = column; track = track }

-- two pins side by side, joined on the one track above them
abbrev pub joined_pins : Wiring
joined_pins = record {
  tracks = 1;
  columns = 2;
  segments = Across 1 0 0 1 ∷ (Across 1 1 0 1 ∷ (Along 1 1 0 1 ∷ []));
  vias = via_at 1 0 1 ∷ (via_at 1 1 1 ∷ []);
}

-- vias of three nets, as near to each other as a wiring can have them
abbrev pub near_vias : Wiring
near_vias = record {
  tracks = 2;
  columns = 2;
  segments = [];
  vias = via_at 1 0 1 ∷ (via_at 2 1 1 ∷ (via_at 3 0 2 ∷ []));
}
