use Rattle.std.proofs.Common.{◌≡◌, ℕ, List, [], ◌∷◌, true, false, refl}
use Rattle.channel_model.specs.Pins.{Pins}
use Rattle.greedy_column.specs.declared.column.Column.{Column}
use Rattle.channel_model.proofs.Worked.{crossed}
use Rattle.channel_model.specs.declared.wiring.Segment.TheVariants.{Across, Along}
use Rattle.channel_model.specs.declared.wiring.Wiring.{Wiring}
use Rattle.greedy_column.specs.Tracks.{ids}
use Rattle.greedy_column.specs.Replay.{replay}
use Rattle.greedy_column.proofs.Worked.{first_column, second_column, last_column}
use Rattle.greedy_router.specs.declared.sweep.Sweep.{Sweep}
use Rattle.greedy_router.specs.SweepWiring.{wiring_of}

-- the sweep of the channel with bottom pins 1, 2 and top pins 2, 1
abbrev pub crossed_sweep : Sweep
crossed_sweep = record {
  begun = 0;
  columns = first_column ∷ (second_column ∷ (last_column ∷ []));
  order = 1 ∷ (2 ∷ (3 ∷ []));
}

pub crossed_order : crossed_sweep.order ≡ ids (replay 0 crossed crossed_sweep.columns)
crossed_order = refl

-- Its wiring. Column 0: the pins enter tracks 1 and 2. Column 1: they enter tracks 2 and 3, and track 2 ends. Column 2: tracks 1 and 3
-- are joined, and both end.
abbrev pub crossed_wiring : Wiring
crossed_wiring = record {
  tracks = 3;
  columns = 3;
  segments = Across 1 0 0 1 ∷ (Across 2 0 2 4
      ∷ (Across 2 1 0 2 ∷ (Across 1 1 3 4 ∷ (Along 2 2 0 1
      ∷ (Across 1 2 1 3 ∷ (Along 1 1 0 2 ∷ (Along 1 3 1 2 ∷ [])))))));
  vias = record { net = 1; column = 0; track = 1 } ∷ (record { net = 2; column = 0; track = 2 }
      ∷ (record { net = 2; column = 1; track = 2 } ∷ (record { net = 1; column = 1; track = 3 }
      ∷ (record { net = 1; column = 2; track = 1 } ∷ (record { net = 1; column = 2; track = 3 } ∷ [])))));
}

pub crossed_wired_by : wiring_of crossed crossed_sweep ≡ crossed_wiring
crossed_wired_by = refl

-- With a third column of two pins of net 1, which cross both its tracks: they are joined by these, and end.
abbrev third_column : Column
third_column = record {
  made = [];
  top = 0;
  bottom = 0;
  straight = true;
  joins = [];
  ended = 1 ∷ (3 ∷ []);
  moves = [];
}

abbrev straight_pins : Pins
straight_pins = record {
  top = 2 ∷ (1 ∷ (1 ∷ []));
  bottom = 1 ∷ (2 ∷ (1 ∷ []));
}

abbrev straight_sweep : Sweep
straight_sweep = record {
  begun = 0;
  columns = first_column ∷ (second_column ∷ (third_column ∷ []));
  order = 1 ∷ (2 ∷ (3 ∷ []));
}

pub straight_wired_by : wiring_of straight_pins straight_sweep ≡ record {
  tracks = 3;
  columns = 3;
  segments = Across 1 0 0 1 ∷ (Across 2 0 2 4
      ∷ (Across 2 1 0 2 ∷ (Across 1 1 3 4 ∷ (Along 2 2 0 1
      ∷ (Across 1 2 0 4 ∷ (Along 1 1 0 2 ∷ (Along 1 3 1 2 ∷ [])))))));
  vias = record { net = 1; column = 0; track = 1 } ∷ (record { net = 2; column = 0; track = 2 }
      ∷ (record { net = 2; column = 1; track = 2 } ∷ (record { net = 1; column = 1; track = 3 }
      ∷ (record { net = 1; column = 2; track = 1 } ∷ (record { net = 1; column = 2; track = 3 } ∷ [])))));
}
straight_wired_by = refl

-- The channel with bottom pin 1 and top pins 2, 2, none and 1. Column 1: net 2 ends on track 2. Column 2: net 1 moves there.
-- Column 3: it ends there.
abbrev entering_top : ℕ → List ℕ → List (ℕ × ℕ) → Column
entering_top top ended moves = record {
  made = [];
  top = top;
  bottom = 0;
  straight = false;
  joins = [];
  ended = ended;
  moves = moves;
}

abbrev moving_pins : Pins
moving_pins = record {
  top = 2 ∷ (2 ∷ (0 ∷ (1 ∷ [])));
  bottom = 1 ∷ (0 ∷ (0 ∷ (0 ∷ [])));
}

abbrev moving_sweep : Sweep
moving_sweep = record {
  begun = 0;
  columns = first_column ∷ (entering_top 2 (2 ∷ []) [] ∷ (entering_top 0 [] ((1, 2) ∷ []) ∷ (entering_top 2 (2 ∷ []) [] ∷ [])));
  order = 1 ∷ (2 ∷ []);
}

pub moving_wired_by : wiring_of moving_pins moving_sweep ≡ record {
  tracks = 2;
  columns = 4;
  segments = Across 1 0 0 1 ∷ (Across 2 0 2 3
      ∷ (Across 2 1 2 3 ∷ (Along 2 2 0 1
      ∷ (Across 1 2 1 2 ∷ (Along 1 1 0 2
      ∷ (Across 1 3 2 3 ∷ (Along 1 2 2 3 ∷ [])))))));
  vias = record { net = 1; column = 0; track = 1 } ∷ (record { net = 2; column = 0; track = 2 }
      ∷ (record { net = 2; column = 1; track = 2 }
      ∷ (record { net = 1; column = 2; track = 1 } ∷ (record { net = 1; column = 2; track = 2 }
      ∷ (record { net = 1; column = 3; track = 2 } ∷ [])))));
}
moving_wired_by = refl
