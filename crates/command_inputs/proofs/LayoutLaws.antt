use Rattle.std.proofs.Common.{◌≡◌, ◌<◌, ◌^◌, ℕ, List, All, length, None, Some, Result, Ok, Err, refl, arith}
use Rattle.std.specs.Prelude.{ℤ, pos, negsuc}
use Rattle.std.proofs.lemmas.Int.{ints}
use Rattle.std.proofs.lemmas.List.Elements.{All-from_recursion, All-weaker}
use Rattle.geom_core.specs.Reach.{IsInReach, IsShapeInReach}
use Rattle.geom_core.specs.declared.layout.Cell.{Cell}
use Rattle.geom_core.specs.declared.layout.Layout.{Layout}
use Rattle.geom_core.specs.declared.layout.Shape.{Shape}
use Rattle.cif_text.specs.CifReads.{cif_reads}
use Rattle.cif_text.specs.ReadsAs.{ReadsAs}
use Rattle.cif_text.specs.declared.command.CifCommand.{CifCommand}
use Rattle.cif_text.specs.declared.fault.CifKind.{CifKind}
use Rattle.cif_reader.proofs.AgreementLaws.{expansion-means}
use Rattle.cif_reader.specs.Expansion.{expansion}
use Rattle.cif_reader.specs.declared.fault.ExpandKind.{ExpandKind}
use Rattle.label_reader.specs.Labelled.{labelled}
use Rattle.label_reader.specs.ReadsByLabels.{ReadsByLabels}
use Rattle.command_ends.specs.Refusing.{◌>>=◌}
use Rattle.command_ends.specs.declared.refusal.Refusal.{Refusal}
use Rattle.cif_reader.specs.Within.{IsCellWithin, IsLayoutWithin, IsNotFar, IsShapeWithin}
use Rattle.layout_check.specs.Measured.{IsCellAmong, IsMeasured}
use Rattle.layout_merge.specs.Near.{IsCellNear, IsNear}
use Rattle.command_inputs.specs.LayoutFile.{cif_said, commands_verdict, layout_verdict, meaning_said}
use Rattle.command_inputs.proofs.LimitLaws.{within-next}

-- what is not too far for the reader is in the reach of a check
in-reach : (z : ℤ) → IsNotFar z → IsInReach z
in-reach (pos n) near = record { low = omega (arith, ints, near); high = omega (arith, ints, near) }
in-reach (negsuc n) near = record { low = omega (arith, ints, near); high = omega (arith, ints, near) }

shape-in-reach : (s : Shape) → IsShapeWithin s → IsShapeInReach s
shape-in-reach s near = record { x0 = in-reach _ near.x0; y0 = in-reach _ near.y0; x1 = in-reach _ near.x1; y1 = in-reach _ near.y1 }

cell-among : (shapes : ℕ) (c : Cell) → IsCellWithin shapes c → IsCellAmong shapes c
cell-among shapes c near = record { last = near.last; quarters = near.quarters; across = in-reach _ near.across; up = in-reach _ near.up }

-- a layout within the limits of the reader can be checked
pub measured : (most : ℕ) (l : Layout) → most < 2 ^ 32 → IsLayoutWithin most l → IsMeasured l
measured most l few within = record {
  few_cells = omega (arith, within.few_cells);
  few_shapes = omega (arith, within.few);
  cells = All-weaker (IsCellWithin (length l.shapes)) (IsCellAmong (length l.shapes)) (cell-among (length l.shapes)) l.cells
      (All-from_recursion (IsCellWithin (length l.shapes)) l.cells within.cells);
  shapes = All-weaker IsShapeWithin IsShapeInReach shape-in-reach l.shapes (All-from_recursion IsShapeWithin l.shapes within.shapes);
}

is-near : (z : ℤ) → IsNotFar z → IsNear z
is-near (pos n) near = record { low = omega (arith, ints, near); high = omega (arith, ints, near) }
is-near (negsuc n) near = record { low = omega (arith, ints, near); high = omega (arith, ints, near) }

cell-near : (shapes : ℕ) (c : Cell) → IsCellWithin shapes c → IsCellNear c
cell-near shapes c near = record { across = is-near _ near.across; up = is-near _ near.up }

-- and merged
pub cells-near : (most : ℕ) (l : Layout) → IsLayoutWithin most l → All IsCellNear l.cells
cells-near most l within =
    All-weaker (IsCellWithin (length l.shapes)) IsCellNear (cell-near (length l.shapes)) l.cells (All-from_recursion (IsCellWithin (length l.shapes)) l.cells within.cells)

said-reads : (read : Result (List CifCommand) (CifKind × ℕ)) (commands : List CifCommand) → cif_said read ≡ Ok commands → read ≡ Ok commands
said-reads (Ok found) commands is = cc
said-reads (Err bad) commands is = cc

said-means : (found : Result Layout (ExpandKind × ℕ)) (layout : Layout) → meaning_said found ≡ Ok layout → found ≡ Ok layout
said-means (Ok l) layout is = cc
said-means (Err bad) layout is = cc

-- the layout that the bytes of a file give is the one as which they read
pub layout-reads : (bytes : List ℕ) (layout : Layout) → layout_verdict None bytes ≡ Ok layout → ReadsAs bytes layout
unfolding layout_verdict commands_verdict
layout-reads bytes layout is = by (commands_verdict bytes) refl is
  where
    by : (said : Result (List CifCommand) Refusal) → commands_verdict bytes ≡ said → (said >>= (λ cs. meaning_said (expansion cs))) ≡ Ok layout → ReadsAs bytes layout
    by (Ok commands) found is = record {
      commands = commands;
      reads = said-reads (cif_reads bytes) commands (within-next _ _ bytes (λ whole. cif_said (cif_reads whole)) commands found);
      means = expansion-means commands layout (said-means (expansion commands) layout is);
    }
    by (Err refusal) found is = cc

-- and by labels it is the one as which they read by these
pub layout-labels : (outline bytes : List ℕ) (layout : Layout) → layout_verdict (Some outline) bytes ≡ Ok layout → ReadsByLabels outline bytes layout
unfolding layout_verdict commands_verdict
layout-labels outline bytes layout is = by (commands_verdict bytes) refl is
  where
    by : (said : Result (List CifCommand) Refusal) → commands_verdict bytes ≡ said → (said >>= (λ cs. meaning_said (labelled outline cs))) ≡ Ok layout
        → ReadsByLabels outline bytes layout
    by (Ok commands) found is = record {
      commands = commands;
      reads = said-reads (cif_reads bytes) commands (within-next _ _ bytes (λ whole. cif_said (cif_reads whole)) commands found);
      labelled_is = said-means (labelled outline commands) layout is;
    }
    by (Err refusal) found is = cc
