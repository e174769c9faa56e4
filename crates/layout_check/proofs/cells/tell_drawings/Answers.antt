use Rattle.std.proofs.Common.{◌∙◌}
use Rattle.layout_check.proofs.cells.tell_drawings.Goals as goal

pub returns : goal.returns
returns c = rw (← (c.as_slice-2.ensures.value ∙ c.in_ok-numbers.ensures)) c.put_numbers.ensures
