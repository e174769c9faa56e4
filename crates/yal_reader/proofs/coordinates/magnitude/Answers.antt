use Rattle.std.proofs.lemmas.List.Sums.{prefix_len-le-length}
use Rattle.yal_reader.proofs.KeptWords.{pointed-near}
use Rattle.yal_reader.specs.Numbers.{is_no_point}
use Rattle.yal_reader.proofs.coordinates.magnitude.Goals as goal

pub split_at-requires : goal.split_at-requires
split_at-requires c = rw c.whole_len.ensures (prefix_len-le-length is_no_point c.args.text.now)

pub returns-clause-near : goal.returns-clause-near
returns-clause-near c = rw c.pointed.ensures (pointed-near _ _ _)
