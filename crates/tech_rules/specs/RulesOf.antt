-- the rules that the bytes of a file give, or the first key at fault, or the first of the twelve rules that fails
use Rattle.std.specs.Prelude.{ℕ, ◌+◌, ◌%◌, List, Bool, not, ◌&&◌, ◌==◌, nat_le, if◌then◌else◌, Option, Some, None, Result, Ok, Err}
use Rattle.std.specs.Str.{bytes_eq}
use Rattle.toml.specs.Data.{Members}
use Rattle.tech_rules.specs.Document.{decimals_of, document_of, number_of, string_of}
use Rattle.tech_rules.specs.Rules.{RuleValues, pad, is_yal_word}
use Rattle.tech_rules.specs.Sections.{and_then, annealing_in, cut_in, grid_in, outline_in, wires_in}
use Rattle.tech_rules.specs.declared.fault.RulesFault.{RulesFault}
use Rattle.tech_rules.specs.declared.fault.RulesFault.TheVariants.{Toml, Tight, Memory}
use Rattle.tech_rules.specs.declared.key.Key.TheVariants.{Version, Yal, HorizontalLayer, HorizontalWidth, HorizontalSpace, VerticalLayer, VerticalWidth, VerticalSpace}

-- the values that a document states, each in its range, or the fault of the first key that has one
abbrev pub values_in : Members → Result RuleValues RulesFault
values_in document =
    and_then (number_of document Version 1 2) (λ version.
    and_then (string_of document Yal is_yal_word) (λ yal.
    and_then (decimals_of document version) (λ decimals.
    and_then (grid_in document) (λ grid.
    and_then (wires_in document HorizontalLayer HorizontalWidth HorizontalSpace) (λ horizontal.
    and_then (wires_in document VerticalLayer VerticalWidth VerticalSpace) (λ vertical.
    and_then (cut_in document) (λ cut.
    and_then (outline_in document) (λ outline.
    and_then (annealing_in document) (λ annealing.
    Ok (record {
      version = version;
      yal = yal;
      decimals = decimals;
      grid = grid;
      horizontal = horizontal;
      vertical = vertical;
      cut = cut;
      outline = outline;
      annealing = annealing;
    }))))))))))

-- whether the four layers have different names
abbrev pub are_different : RuleValues → Bool
are_different r = not (bytes_eq r.horizontal.layer r.vertical.layer)
    && not (bytes_eq r.horizontal.layer r.cut.layer)
    && not (bytes_eq r.horizontal.layer r.outline.layer)
    && not (bytes_eq r.vertical.layer r.cut.layer)
    && not (bytes_eq r.vertical.layer r.outline.layer)
    && not (bytes_eq r.cut.layer r.outline.layer)

-- the number of the first rule that fails
unfoldable pub broken_rule : RuleValues → Option ℕ
broken_rule r =
    if not (nat_le r.horizontal.width (pad r)) then Some 1 else
    if not (nat_le r.vertical.width (pad r)) then Some 2 else
    if not (nat_le (pad r + r.horizontal.space) r.grid.column) then Some 3 else
    if not (nat_le (pad r + r.vertical.space) r.grid.column) then Some 4 else
    if not (nat_le (pad r + r.horizontal.space) r.grid.track) then Some 5 else
    if not (nat_le (pad r + r.vertical.space) r.grid.track) then Some 6 else
    if not (nat_le (r.cut.size + r.cut.space) r.grid.column) then Some 7 else
    if not (nat_le (r.cut.size + r.cut.space) r.grid.track) then Some 8 else
    if not (r.grid.column % 2 == 0) then Some 9 else
    if not (r.grid.centi % 4 == 0) then Some 10 else
    if not (nat_le r.vertical.width r.grid.pin) then Some 11 else
    if not (are_different r) then Some 12 else
    None

-- values of which the first rule that fails is this one
abbrev pub unless_broken : Option ℕ → RuleValues → Result RuleValues RulesFault
unless_broken (Some rule) r = Err (Tight rule)
unless_broken None r = Ok r

abbrev pub rules_in : Option Members → Result RuleValues RulesFault
rules_in None = Err Toml
rules_in (Some document) = and_then (values_in document) (λ r. unless_broken (broken_rule r) r)

-- the rules of a rules file's bytes, or its first fault: the text's, a key's in the order of the keys, or a rule's
unfoldable pub rules_of : List ℕ → Result RuleValues RulesFault
rules_of bytes = rules_in (document_of bytes)

-- what a fault tells, and nothing for want of memory
abbrev pub told_of : RulesFault → Option RulesFault
told_of Memory = None
told_of fault = Some fault
