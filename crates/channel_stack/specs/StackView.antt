-- a layout with the rectangles of its channels, as contracts see it
use Rattle.channel_stack.specs.Stack.{Stacked}
use Rattle.channel_stack.specs.declared.placed.Placed.TheInside.{Inside}

abbrev pub stacked_in : Inside → Stacked
stacked_in a = record {
  channel_base = a.channel_base;
  row_base = a.row_base;
  row_height = a.row_height;
  cells = a.cells;
  risers = a.risers;
  shapes = a.shapes;
  width = a.width;
  height = a.height;
}
