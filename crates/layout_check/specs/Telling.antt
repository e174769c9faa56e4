-- findings of a kind
use Rattle.std.specs.Prelude.{ℕ}
use Rattle.layout_check.specs.declared.finding.Finding.{Finding}
use Rattle.layout_check.specs.declared.finding.Finding.TheVariants.{Missing, Doubled, Strange, Drawing, Overlap, OutOfRow, Narrow, Close, BareCut, Opened, Short}
use Rattle.layout_check.specs.declared.telling.OfNumber.{OfNumber}
use Rattle.layout_check.specs.declared.telling.OfNumber.TheVariants.{Missing as MissingOf, Strange as StrangeOf, Drawing as DrawingOf, Narrow as NarrowOf, BareCut as BareCutOf}
use Rattle.layout_check.specs.declared.telling.OfPair.{OfPair}
use Rattle.layout_check.specs.declared.telling.OfPair.TheVariants.{Doubled as DoubledOf, Overlap as OverlapOf, OutOfRow as OutOfRowOf, Close as CloseOf, Opened as OpenedOf, Short as ShortOf}

-- the finding of a kind that tells of this number
abbrev pub of_number : OfNumber → ℕ → Finding
of_number MissingOf n = Missing n
of_number StrangeOf n = Strange n
of_number DrawingOf n = Drawing n
of_number NarrowOf n = Narrow n
of_number BareCutOf n = BareCut n

-- the finding of a kind that tells of this pair
abbrev pub of_pair : OfPair → ℕ × ℕ → Finding
of_pair DoubledOf p = Doubled p.0 p.1
of_pair OverlapOf p = Overlap p.0 p.1
of_pair OutOfRowOf p = OutOfRow p.0 p.1
of_pair CloseOf p = Close p.0 p.1
of_pair OpenedOf p = Opened p.0 p.1
of_pair ShortOf p = Short p.0 p.1
