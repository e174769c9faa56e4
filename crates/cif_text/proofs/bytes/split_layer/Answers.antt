use Rattle.std.proofs.Common.{sym}
use Rattle.std.proofs.lemmas.List.Sums.{prefix_len-le-length}
use Rattle.geom_core.specs.LayerText.{is_layer_code}
use Rattle.cif_text.proofs.ScanLemmas.{span-parts}
use Rattle.cif_text.proofs.bytes.split_layer.Goals as goal

pub split_at-requires : goal.split_at-requires
split_at-requires c = rw c.layer_len.ensures (prefix_len-le-length is_layer_code c.args.bytes.now)

pub returns : goal.returns
returns c = rw (c.split_at.ensures.front, c.split_at.ensures.back, c.layer_len.ensures) (sym (span-parts is_layer_code c.args.bytes.now))
