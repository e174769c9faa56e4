-- the parts of a report database that are the same for all findings
use Rattle.std.specs.Prelude.{ℕ, List}
use Rattle.finding_markers.specs.declared.texts.Part.{Part}
use Rattle.finding_markers.specs.declared.texts.Part.TheVariants.{Begin, End, InCell, Item, ItemEnd, TextEnd}
use Rattle.finding_markers.specs.declared.texts.TheConstants.{BEGIN, END, IN_CELL, ITEM, ITEM_END, TEXT_END}

-- the text of a part, as it stands in the source
unfoldable pub part_text : Part → List ℕ
part_text Begin = BEGIN.now
part_text End = END.now
part_text Item = ITEM.now
part_text InCell = IN_CELL.now
part_text TextEnd = TEXT_END.now
part_text ItemEnd = ITEM_END.now
