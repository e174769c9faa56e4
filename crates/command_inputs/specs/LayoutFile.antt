-- the commands and the layout that the bytes of a layout's file give, or why the file is refused
use Rattle.std.specs.Prelude.{◌<◌, ◌^◌, ℕ, List, false, length, Option, None, Some, Result, Ok, Err}
use Rattle.limits.specs.declared.TheConstants.{MOST_LAYOUT_BYTES}
use Rattle.geom_core.specs.declared.layout.Layout.{Layout}
use Rattle.cif_text.specs.CifReads.{cif_reads}
use Rattle.cif_text.specs.Sound.{AreSound}
use Rattle.cif_text.specs.declared.command.CifCommand as cif
use Rattle.cif_text.specs.declared.fault.CifKind.{CifKind}
use Rattle.cif_reader.specs.Expansion.{expansion}
use Rattle.cif_reader.specs.declared.fault.ExpandKind.{ExpandKind}
use Rattle.label_reader.specs.Labelled.{labelled}
use Rattle.command_ends.specs.Limits.{within_limit}
use Rattle.command_ends.specs.Refusing.{◌>>=◌}
use Rattle.command_ends.specs.declared.refusal.Limited.TheVariants as limits
use Rattle.command_ends.specs.declared.refusal.Refusal.{Refusal}
use Rattle.command_ends.specs.declared.refusal.Refusal.TheVariants.{Cif, Meaning}

abbrev pub cif_said : Result (List cif.CifCommand) (CifKind × ℕ) → Result (List cif.CifCommand) Refusal
cif_said (Ok commands) = Ok commands
cif_said (Err bad) = Err (Cif bad.0 bad.1)

abbrev pub meaning_said : Result Layout (ExpandKind × ℕ) → Result Layout Refusal
meaning_said (Ok layout) = Ok layout
meaning_said (Err bad) = Err (Meaning bad.0 bad.1)

-- commands that the reader can expand
pub record AreExpandable (commands : List cif.CifCommand) : Type 0 where
  pub sound : AreSound false commands
  pub few : length commands < 2 ^ 32

-- the commands that the bytes of a layout's file are
unfoldable pub commands_verdict : List ℕ → Result (List cif.CifCommand) Refusal
commands_verdict bytes = do
  whole ← within_limit limits.Cif MOST_LAYOUT_BYTES bytes
  cif_said (cif_reads whole)

-- the layout that commands give, by names or by the labels on an outline layer
abbrev pub expansion_by : Option (List ℕ) → List cif.CifCommand → Result Layout (ExpandKind × ℕ)
expansion_by None commands = expansion commands
expansion_by (Some outline) commands = labelled outline commands

-- the layout that they give, within the limits of the reader
unfoldable pub layout_verdict : Option (List ℕ) → List ℕ → Result Layout Refusal
layout_verdict outline bytes = do
  commands ← commands_verdict bytes
  meaning_said (expansion_by outline commands)
