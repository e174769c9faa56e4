use Rattle.cif_writer.proofs.NearMiddles.{shape-twice}
use Rattle.cif_writer.proofs.printing.put_shape.Goals as goal

pub box_of-requires : goal.box_of-requires
box_of-requires g c = shape-twice c.args.shape.now.rect c.requires
