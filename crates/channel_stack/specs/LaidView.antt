-- a layout of rows and channels without rectangles, as contracts see it
use Rattle.channel_stack.specs.Stack.{LaidOut}
use Rattle.channel_stack.specs.declared.placed.Laid.TheInside.{Inside}

abbrev pub laid_in : Inside → LaidOut
laid_in a = record {
  channel_base = a.channel_base;
  row_base = a.row_base;
  row_height = a.row_height;
  cells = a.cells;
  risers = a.risers;
  width = a.width;
  height = a.height;
}
