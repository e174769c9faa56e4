-- the grid, wires, cut, outline and annealing that a rules file states, or the first key at fault
use Rattle.std.specs.Prelude.{Result, Ok, Err}
use Rattle.geom_core.specs.LayerText.{is_layer_text}
use Rattle.limits.specs.declared.TheConstants.{MOST_LENGTH, MOST_MOVES, MOST_STAGES, MOST_TEMPERATURE, MOST_WEIGHT}
use Rattle.toml.specs.Data.{Members}
use Rattle.tech_rules.specs.Document.{number_of, start_of, string_of}
use Rattle.tech_rules.specs.declared.fault.RulesFault.{RulesFault}
use Rattle.tech_rules.specs.declared.key.Key.{Key}
use Rattle.tech_rules.specs.declared.key.Key.TheVariants.{GridColumn, GridTrack, GridCenti, GridPin, CutLayer, CutSize, CutEnclose, CutSpace, OutlineLayer, AnnealTemperature, AnnealStages, AnnealMoves, AnnealRowCost, AnnealLengthCost}
use Rattle.tech_rules.specs.declared.sections.Annealing.{Annealing}
use Rattle.tech_rules.specs.declared.sections.Cut.{Cut}
use Rattle.tech_rules.specs.declared.sections.Grid.{Grid}
use Rattle.tech_rules.specs.declared.sections.Outline.{Outline}
use Rattle.tech_rules.specs.declared.sections.Wires.{Wires}

-- what follows a value, or the fault in its place
abbrev pub and_then : {A B : Type 0} → Result A RulesFault → (A → Result B RulesFault) → Result B RulesFault
and_then (Ok a) next = next a
and_then (Err fault) next = Err fault

-- the values that a document states for a section, each in its range, or the fault of the first key that has one
unfoldable pub grid_in : Members → Result Grid RulesFault
grid_in document =
    and_then (number_of document GridColumn 2 MOST_LENGTH) (λ column.
    and_then (number_of document GridTrack 2 MOST_LENGTH) (λ track.
    and_then (number_of document GridCenti 4 MOST_LENGTH) (λ centi.
    and_then (number_of document GridPin 1 MOST_LENGTH) (λ pin.
    Ok (record { column = column; track = track; centi = centi; pin = pin })))))

-- by the keys of a layer, of a width and of a space
unfoldable pub wires_in : Members → Key → Key → Key → Result Wires RulesFault
wires_in document named wide apart =
    and_then (string_of document named is_layer_text) (λ layer.
    and_then (number_of document wide 1 MOST_LENGTH) (λ width.
    and_then (number_of document apart 1 MOST_LENGTH) (λ space.
    Ok (record { layer = layer; width = width; space = space }))))

unfoldable pub cut_in : Members → Result Cut RulesFault
cut_in document =
    and_then (string_of document CutLayer is_layer_text) (λ layer.
    and_then (number_of document CutSize 1 MOST_LENGTH) (λ size.
    and_then (number_of document CutEnclose 0 MOST_LENGTH) (λ enclose.
    and_then (number_of document CutSpace 1 MOST_LENGTH) (λ space.
    Ok (record { layer = layer; size = size; enclose = enclose; space = space })))))

unfoldable pub outline_in : Members → Result Outline RulesFault
outline_in document = and_then (string_of document OutlineLayer is_layer_text) (λ layer. Ok (record { layer = layer }))

unfoldable pub annealing_in : Members → Result Annealing RulesFault
annealing_in document =
    and_then (number_of document AnnealTemperature 1 MOST_TEMPERATURE) (λ temperature.
    and_then (number_of document AnnealStages 0 MOST_STAGES) (λ stages.
    and_then (number_of document AnnealMoves 0 MOST_MOVES) (λ moves.
    and_then (number_of document AnnealRowCost 0 MOST_WEIGHT) (λ row_cost.
    and_then (number_of document AnnealLengthCost 0 MOST_WEIGHT) (λ length_cost.
    and_then (start_of document) (λ start.
    Ok (record { temperature = temperature; stages = stages; moves = moves; row_cost = row_cost; length_cost = length_cost; start = start })))))))
